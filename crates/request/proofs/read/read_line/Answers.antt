-- `request::read::read_line` meets its contract. Assumes nothing.
use native.Mathlib.Omega.{arith}
use Rattle.model.specs.Refusal.{accepted}
use Rattle.model.specs.Request.{request_line}
use Rattle.model.specs.Items.{line_items}
use Rattle.model.specs.Choice.{and_then}
use Rattle.model.specs.Answers.{name_at}
use Rattle.book_tables.specs.View.{book_at}
use Rattle.rules_tables.specs.View.{rules_at}
use Rattle.request.specs.Forms.{line_of}
use Rattle.request.specs.RequestReads.{fed}
use Rattle.request.proofs.ReadLaws.{line_broken, line_faulty, accepts_line, reads_refused}
use Rattle.request.proofs.StoreLaws.{fault_told, claims_told}
use Rattle.request.proofs.FaultLaws.{is_undeclared, is_named}
use Rattle.request.proofs.FormLaws.{form_at_law, form_none}
use Rattle.request.proofs.read.read_line.Goals as goal

pub returns-in_default : goal.returns-in_default
returns-in_default c =
    let a = c.args in
    let b = book_at a.book.now a.words.now a.counts in
    reads_refused a.counts.nodes a.rules.now a.table.now a.sizes.categories (fed a.s.now) _ 3 1 _ c.refused.ensures
    (line_broken b (rules_at a.rules.now a.table.now a.sizes) a.s.now accepted
    (form_none a.s.now (and_then (line_items a.s.now) request_line) _ c.in_default.is c.request_form.ensures))

pub part_of-category-requires : goal.part_of-category-requires
part_of-category-requires c =
    let a = c.args in
    (form_at_law a.s.now (and_then (line_items a.s.now) request_line) _ c.in-Some.is c.request_form.ensures).places.inside

pub find_name-k-requires : goal.find_name-k-requires
find_name-k-requires c =
    (c.requires.1.named, omega (arith, c.requires.1.few, c.requires.1.room))

pub returns-then-sizes-k : goal.returns-then-sizes-k
returns-then-sizes-k c =
    let a = c.args in
    let h = form_at_law a.s.now (and_then (line_items a.s.now) request_line) _ c.in-Some.is c.request_form.ensures in
    let w = c.in-Some.name in
    let b = book_at a.book.now a.words.now a.counts in
    let found = rw c.part_of-category.ensures at c.find_name-k.ensures in
    reads_refused a.counts.nodes a.rules.now a.table.now a.sizes.categories (fed a.s.now) _ 4 1 _ c.refused-then-sizes-k.ensures
    (line_faulty b (rules_at a.rules.now a.table.now a.sizes) a.s.now accepted (line_of a.s.now w h.claims) 4 h.is
    (is_undeclared a.rules.now a.table.now a.sizes c.requires.1 b (name_at a.s.now w) _ found h.claims c.if-sizes-k.true))

pub overflow_add-end : goal.overflow_add-end
overflow_add-end c =
    let a = c.args in
    let h = form_at_law a.s.now (and_then (line_items a.s.now) request_line) _ c.in-Some.is c.request_form.ensures in
    omega (arith, c.well_formed, h.places.inside)

pub identities-requires : goal.identities-requires
identities-requires c =
    let a = c.args in
    let h = form_at_law a.s.now (and_then (line_items a.s.now) request_line) _ c.in-Some.is c.request_form.ensures in
    (c.requires.0, c.requires.1, c.if-sizes-k.false, record { claims = h.claims; are = h.are })

pub returns-in-Err : goal.returns-in-Err
returns-in-Err c =
    let a = c.args in
    let h = form_at_law a.s.now (and_then (line_items a.s.now) request_line) _ c.in-Some.is c.request_form.ensures in
    let w = c.in-Some.name in
    let b = book_at a.book.now a.words.now a.counts in
    let found = rw c.part_of-category.ensures at c.find_name-k.ensures in
    reads_refused a.counts.nodes a.rules.now a.table.now a.sizes.categories (fed a.s.now) _ _ 1 _ c.refused-in-Err.ensures
    (line_faulty b (rules_at a.rules.now a.table.now a.sizes) a.s.now accepted (line_of a.s.now w h.claims) _ h.is
    (fault_told a.book.now a.words.now a.counts a.rules.now a.table.now a.sizes _ a.s.now _ _ c.identities.ensures _ c.in-Err.is (name_at a.s.now w)
    h.claims found h.are))

pub returns-in-Ok : goal.returns-in-Ok
returns-in-Ok c =
    let a = c.args in
    let h = form_at_law a.s.now (and_then (line_items a.s.now) request_line) _ c.in-Some.is c.request_form.ensures in
    let w = c.in-Some.name in
    let n = name_at a.s.now w in
    let b = book_at a.book.now a.words.now a.counts in
    let found = rw c.part_of-category.ensures at c.find_name-k.ensures in
    let l = c.if-sizes-k.false in
    let i = claims_told a.book.now a.words.now a.counts a.rules.now a.table.now a.sizes _ a.s.now _ _ c.identities.ensures _ c.in-Ok.is in
    accepts_line b (rules_at a.rules.now a.table.now a.sizes) a.counts.nodes a.rules.now a.table.now a.sizes.categories a.s.now w c.find_name-k.result h.claims
    c.in-Ok.given h.is (i.0 n h.claims found h.are)
    (is_named a.rules.now a.table.now a.sizes c.requires.1 b n c.find_name-k.result found h.claims l) l
    (i.1 h.claims h.are) h.words
