use Rattle.book_lines.proofs.LineLaws.{step_broken, form_other}
use Rattle.book_lines.specs.Forms.{line_of}
use Rattle.book_lines.proofs.forms.read_rest.Goals as goal

pub returns-in-Attr : goal.returns-in-Attr
unfolding line_of
returns-in-Attr c =
    rw c.in-Attr.is (c.attr_line.ensures c.args.rule)

pub returns-in-Label : goal.returns-in-Label
unfolding line_of
returns-in-Label c =
    rw c.in-Label.is (c.label_line.ensures c.args.rule)

pub returns-in-Node : goal.returns-in-Node
unfolding line_of
returns-in-Node c = rw c.in-Node.is c.node_line.ensures

pub returns-in-Rel : goal.returns-in-Rel
unfolding line_of
returns-in-Rel c =
    rw c.in-Rel.is (c.rel_line.ensures c.args.rule)

pub returns-in-Other : goal.returns-in-Other
returns-in-Other c =
    step_broken _ _ _ (form_other _ c.args.line.now c.args.from _ c.in-Other.is)
