-- A refusal beside no counts and no request.
use Rattle.prepare.proofs.refused.Goals as goal

pub returns : goal.returns
returns c = λ i. record { book = c.no_counts-book.ensures i; rules = record { categories = 0; policies = 0 }; request = c.no_request-request.ensures i }
