use Rattle.query_survey.specs.Names.{name_in, as_list}
use Rattle.query_pieces.specs.Named.{vertex_in, return_in}
use Rattle.query_pieces.specs.Steps.{piece_of}
use mathlib.Core.Path.{sym}
use Rattle.query_survey.proofs.ScanLaws.{linked_vertex, linked_edge, no_vertex, no_edge, no_return}
use Rattle.query_survey.proofs.scan.name_of.Goals as goal

pub returns-in-Vertex-Start-clause-reads : goal.returns-in-Vertex-Start-clause-reads
unfolding as_list name_in vertex_in piece_of
returns-in-Vertex-Start-clause-reads c = λ s. rw (c.in-Vertex-Start.is-0, c.in-Vertex-Start.is-1)

pub returns-in-Vertex-Linked-clause-reads : goal.returns-in-Vertex-Linked-clause-reads
unfolding as_list name_in
returns-in-Vertex-Linked-clause-reads c = λ s. rw (c.in-Vertex-Linked.is-0, c.in-Vertex-Linked.is-1) (sym (linked_vertex s c.in-Vertex-Linked.l c.in-Vertex-Linked.field-0-1))

pub returns-in-Edge-Linked-clause-reads : goal.returns-in-Edge-Linked-clause-reads
unfolding as_list name_in
returns-in-Edge-Linked-clause-reads c = λ s. rw (c.in-Edge-Linked.is-0, c.in-Edge-Linked.is-1) (sym (linked_edge s c.in-Edge-Linked.l c.in-Edge-Linked.field-0-1))

pub returns-in-Returned-Returns-clause-reads : goal.returns-in-Returned-Returns-clause-reads
unfolding as_list name_in return_in piece_of
returns-in-Returned-Returns-clause-reads c = λ s. rw (c.in-Returned-Returns.is-0, c.in-Returned-Returns.is-1)

pub returns-in_default : goal.returns-in_default
unfolding as_list name_in
returns-in_default c = record { reads = λ s. rw c.in_default.is-0 (no_vertex s c.args.p c.in_default.not-Start-1 c.in_default.not-Linked-1); inside = λ s h. tt }

pub returns-in_default-2 : goal.returns-in_default-2
unfolding as_list name_in
returns-in_default-2 c = record { reads = λ s. rw c.in_default.is-0 (no_edge s c.args.p c.in_default.not-Linked-1); inside = λ s h. tt }

pub returns-in_default-3 : goal.returns-in_default-3
unfolding as_list name_in
returns-in_default-3 c = record { reads = λ s. rw c.in_default.is-0 (no_return s c.args.p c.in_default.not-Returns-1); inside = λ s h. tt }
