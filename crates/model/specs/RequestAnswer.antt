-- What the request reader answers, whole: each number of the data, from the texts.
use Rattle.std.specs.Prelude.{ℕ, [], length, Ok, Err}
use Rattle.model.specs.Bytes.{Bytes}
use Rattle.model.specs.Refusal.{Outcome, accepted, refused}
use Rattle.model.specs.Service.{RequestAnswer, request_service}
use Rattle.model.specs.Answers.{refusal_data}
use Rattle.model.specs.RequestPlaces.{identity_places, slots}
use Rattle.model.specs.declared.RequestRead.{RequestRead}

-- the answer about a text: accepted with the category's number and the identities, each where its own actor stands; or refused, beside no category and no
-- identity
unfoldable pub told_request : Bytes → Outcome RequestAnswer → RequestRead
told_request text (accepted a) = record {
  verdict = Ok tt;
  category = a.category;
  identities = slots (identity_places text a.identities);
  count = length a.identities;
}
told_request text (refused r) = record { verdict = Err (refusal_data r); category = 0; identities = slots []; count = 0 }

-- the whole answer for the words of working memory, the book, the rules and the request
unfoldable pub request_read : ℕ → Bytes → Bytes → Bytes → RequestRead
request_read work book rules request = told_request request (request_service work book rules request).answer
