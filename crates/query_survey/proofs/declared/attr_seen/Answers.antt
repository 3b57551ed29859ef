use mathlib.Core.Path.{◌∙◌}
use native.Mathlib.Omega.{arith}
use Rattle.model.specs.Answers.{name_at, relation_of, value_of}
use Rattle.book_tables.proofs.OwnerLaws.{attr_table}
use Rattle.query_survey.proofs.DeclaredLaws.{attr_in, attr_out}
use Rattle.query_survey.proofs.declared.attr_seen.Goals as goal

pub overflow_add-offset-then-k-tables : goal.overflow_add-offset-then-k-tables
overflow_add-offset-then-k-tables c =
    let few = (attr_table c.args.book.now c.args.words.now c.args.counts c.requires.0 c.args.owner).few in
    omega (arith, c.tables-tables.ensures.declared)

pub offset_bounds-words-offset : goal.offset_bounds-words-offset
offset_bounds-words-offset c =
    let few = (attr_table c.args.book.now c.args.words.now c.args.counts c.requires.0 c.args.owner).few in
    omega (arith, c.tables-tables.ensures.declared)

pub bounds-words-offset : goal.bounds-words-offset
bounds-words-offset c =
    let few = (attr_table c.args.book.now c.args.words.now c.args.counts c.requires.0 c.args.owner).few in
    omega (arith, c.requires.0.room, c.tables-tables.ensures.declared)

pub returns-then-k-tables : goal.returns-then-k-tables
unfolding name_at
returns-then-k-tables c =
    let a = c.args in
    let tables = c.tables-tables.ensures in
    let found = rw c.part_of.ensures at c.find_attr-k.ensures in
    let is = attr_in a.book.now a.words.now a.counts c.requires.0 a.owner _ (relation_of a.relation) (value_of a.s.now a.value) _ found
    (rw tables.declared at c.if-k-tables.true) in
    record { known = is.0; typed = c.is_suited-typed.ensures a.s.now ∙ rw tables.is is.1 }

pub returns : goal.returns
unfolding name_at
returns c =
    let a = c.args in
    let found = rw c.part_of.ensures at c.find_attr-k.ensures in
    let p = attr_out a.book.now a.words.now a.counts c.requires.0 a.owner _ (relation_of a.relation) (value_of a.s.now a.value) _ found
    (rw c.tables-tables.ensures.declared at c.if-k-tables.false) in
    record { known = p.0; typed = p.1 }
