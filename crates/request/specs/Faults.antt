-- The fault of a request's line.
use Rattle.std.specs.Prelude.{ℕ, ◌≡◌, List}
use Rattle.model.specs.Bytes.{Bytes}
use Rattle.model.specs.Choice.{Maybe, just}
use Rattle.model.specs.Names.{place}
use Rattle.model.specs.Request.{Claim, request_fault}
use Rattle.book_tables.specs.declared.BookCounts.{BookCounts}
use Rattle.book_tables.specs.View.{names_at, book_at}
use Rattle.rules_tables.specs.declared.RulesCounts.{RulesCounts}
use Rattle.rules_tables.specs.Layout.{names}
use Rattle.rules_tables.specs.View.{rules_at}
use Rattle.request.specs.Claims.{claims_from}

-- a category's number, or how many there are where it is none of the rules'
abbrev pub category_place : Bytes → List ℕ → RulesCounts → Bytes → ℕ
category_place rules words c w = place w (names_at rules words names c.categories)

-- n is the lowest fault, if there is one, of a line whose category has the number k, and whose identities stand from q on
abbrev pub FaultTold : Bytes → List ℕ → BookCounts → Bytes → List ℕ → RulesCounts → ℕ → Bytes → ℕ → Maybe ℕ → Type 0
FaultTold book words counts rules table sizes k s q n =
    (w : Bytes) (xs : List Claim) → k ≡ category_place rules table sizes w → claims_from s q ≡ just xs
    → request_fault (book_at book words counts) (rules_at rules table sizes) (record { category = w; claims = xs }) ≡ n
