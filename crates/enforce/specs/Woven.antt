-- What weaving the asked texts promises: the woven pattern stands in the words as the search wants it, or the number of its refusal is answered.
use Rattle.std.specs.Prelude.{ℕ, ◌+◌, ◌≡◌, List, ◌∷◌, map, length, T, Option, None, Some, Result, Ok, Err}
use Rattle.model.specs.Bytes.{Bytes}
use Rattle.model.specs.Choice.{nothing, just}
use Rattle.model.specs.Names.{twice}
use Rattle.model.specs.Book.{Book}
use Rattle.model.specs.QueryText.{QueryText}
use Rattle.model.specs.Grammar.{query_text}
use Rattle.model.specs.Request.{Identity, Request}
use Rattle.model.specs.Weave.{Asked, asked_query, asked_policies, weave, woven_fault}
use Rattle.model.specs.declared.Pattern.{Pattern}
use Rattle.book_tables.specs.declared.BookCounts.{BookCounts}
use Rattle.book_tables.specs.View.{book_at, name_of}
use Rattle.rules_tables.specs.declared.RulesCounts.{RulesCounts}
use Rattle.rules_tables.specs.Layout.{names}
use Rattle.rules_tables.specs.View.{rules_at}
use Rattle.woven_tables.specs.declared.WovenCounts.{WovenCounts}
use Rattle.woven_tables.specs.Tables.{woven_at}
use Rattle.weave.specs.Adding.{TextAdded}
use Rattle.weave.specs.Identities.{identities_in}
use Rattle.weave.specs.Given.{Given, Identified}
use Rattle.query.specs.PatternRead.{PatternRead}
use Rattle.prepare.specs.declared.Ready.{Ready}
use Rattle.enforce.specs.declared.TextPlace.{TextPlace}
use Rattle.enforce.specs.Texts.{texts_below}
use Rattle.enforce.specs.Ready.{Held}

-- all texts together pass a woven limit: 12, whatever identities there are
abbrev pub LimitPassed : Bytes → Bytes → List ℕ → RulesCounts → ℕ → Type 0
LimitPassed query rules rules_words rc category = (ids : List Identity)
    → woven_fault (weave (texts_below query rules rules_words rc category rc.categories)) ids ≡ just 12

-- the pattern of a text is woven, or a limit is passed
abbrev pub TextWoven : Book → BookCounts → Bytes → Bytes → Bytes → List Bytes → TextPlace → List ℕ → List ℕ → WovenCounts → Option WovenCounts → Type 0
TextWoven b k text query rules actors t old new c out =
    (p : Pattern) × PatternRead b k text p × TextAdded query rules actors t.number t.base p old new c out

-- the policy of category m is woven, if it is enforced, and so many texts are woven then; or a limit is passed
abbrev pub CategoryWoven : Book → BookCounts → Bytes → Bytes → List ℕ → RulesCounts → ℕ → ℕ → List ℕ → Option (ℕ × WovenCounts) → Type 0
CategoryWoven b k query rules rules_words rc category m woven (Some (count, c)) =
    Held b k query rules rules_words rc category (m + 1) woven c × (count ≡ length (texts_below query rules rules_words rc category (m + 1)))
CategoryWoven b k query rules rules_words rc category m woven None = LimitPassed query rules rules_words rc category

-- all enforced policies are woven behind the query, or a limit is passed
abbrev pub PoliciesWoven : Book → BookCounts → Bytes → Bytes → List ℕ → RulesCounts → ℕ → List ℕ → Option WovenCounts → Type 0
PoliciesWoven b k query rules rules_words rc category woven (Some c) = Held b k query rules rules_words rc category rc.categories woven c
PoliciesWoven b k query rules rules_words rc category woven None = LimitPassed query rules rules_words rc category

-- the woven pattern of texts stands in the words, with the identities, as the search wants it; so many names are returned
pub record AllWoven (book : Bytes) (words : List ℕ) (k : BookCounts) (query rules : Bytes) (asked : List Asked) (ids : List Identity) (returned : ℕ)
    (woven : List ℕ) (c : WovenCounts) : Type 0 where
  pub held : woven_at (book_at book words k) query rules woven c ≡ weave asked
  pub no_fault : woven_fault (weave asked) ids ≡ nothing
  pub given : Given book words k query rules woven c
  pub identified : (T (twice (map (λ i. i.actor) ids)) → ⊥) → Identified (weave asked) ids woven
  pub returns : c.returns ≡ returned

-- woven without a fault, or the number of the woven pattern's fault
abbrev pub AskedSays : Bytes → List ℕ → BookCounts → Bytes → Bytes → List Asked → List Identity → ℕ → List ℕ → Result WovenCounts ℕ → Type 0
AskedSays book words k query rules asked ids returned woven (Ok c) = AllWoven book words k query rules asked ids returned woven c
AskedSays book words k query rules asked ids returned woven (Err n) = woven_fault (weave asked) ids ≡ just n

-- the answer for a request of that category and those identities, and the query's tree
abbrev pub AskedAnswer : Bytes → List ℕ → Bytes → Bytes → List ℕ → Bytes → Ready → List ℕ → Result WovenCounts ℕ → Type 0
AskedAnswer book words query rules rules_words request r woven out =
    (x : Request) → x.category ≡ name_of rules rules_words names r.request.category
    → x.identities ≡ identities_in request r.request.identities r.request.count
    → (tree : QueryText) → query_text query ≡ just tree
    → let the_rules = rules_at rules rules_words r.rules in
    AskedSays book words r.book query rules (asked_query the_rules x tree ∷ asked_policies the_rules x) x.identities (length tree.returns) woven out
