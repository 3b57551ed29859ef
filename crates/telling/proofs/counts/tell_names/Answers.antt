-- What is told of the names of a book's nodes, accepted or refused.
use borrow.Author.Rules.{rules}
use Rattle.telling.proofs.AnswerLaws.{names_told}
use Rattle.telling.proofs.counts.tell_names.Goals as goal

pub returns : goal.returns
returns c = names_told c.args.read _ (search rules) c.tell.ensures
