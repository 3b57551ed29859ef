use mathlib.Core.Path.{ap, sym, ◌∙◌}
use native.Mathlib.Omega.{arith}
use Rattle.model.specs.Names.{place}
use Rattle.book_tables.proofs.OwnerLaws.{owner_names, attr_table}
use Rattle.book_tables.proofs.names.find_attr.Goals as goal

pub find_name-requires : goal.find_name-requires
find_name-requires c =
    let t = attr_table c.args.text.now c.args.words.now c.args.counts c.requires c.args.owner in
    rw c.tables-tables.ensures.is (t.names, omega (arith, t.low, t.few, c.requires.room))

pub returns : goal.returns
returns c =
    let a = c.args in
    c.find_name.ensures ∙ rw c.tables-tables.ensures.is
    (ap (place a.name.now) (sym (owner_names a.text.now a.words.now a.counts a.owner)))
