-- The rules line by line: the faults of a line after the lines before, and the rules with it.
use Rattle.std.specs.Prelude.{ℕ, List, [], ◌∷◌, ◌++◌, Bool, not, ◌&&◌, ◌||◌, length, leb, ltb}
use Rattle.model.specs.Bytes.{Bytes, bytes_of, same}
use Rattle.model.specs.Choice.{pick, Maybe, nothing, just, and_then}
use Rattle.model.specs.Lists.{is_nil, any, all, each}
use Rattle.model.specs.Limits.{max_rules_bytes, max_categories, max_actors, max_policy_bytes}
use Rattle.model.specs.Names.{Name, mem, twice}
use Rattle.model.specs.Items.{Item, items_of}
use Rattle.model.specs.Refusal.{Outcome, accepted, refusal, on_accept, Row, lowest, ◌if◌}
use Rattle.model.specs.Lines.{Line, Step, read_lines, lines_of, bytes_first, fault_or, form_step}
use Rattle.model.specs.Forms.{as_word, as_name, as_quoted, first, at_end, form_of}
use Rattle.model.specs.Book.{Book}
use Rattle.model.specs.QueryText.{QueryText}
use Rattle.model.specs.Grammar.{query_text}
use Rattle.model.specs.ReadQuery.{has_undeclared, has_twice, has_mistyped, too_many, has_from_itself}
use Rattle.model.specs.Rules.{Rules, category_names}

-- the lines of the rules; of a policy also the count of its bytes
pub data RulesLine : Type 0 where
  category : Name → List Name → List Name → RulesLine
  policy : Name → ℕ → QueryText → RulesLine

-- (HEAD NAME...)
unfoldable pub names_after : Bytes → Item → Maybe (List Name)
names_after head i = and_then (items_of i) (λ is. first as_word is (λ w is. pick (same w head) (each as_name is) nothing))

-- NAME (actors WORD...) (over CATEGORY...)
unfoldable pub category_line : List Item → Maybe RulesLine
category_line is =
    first as_name is (λ n is.
    first (names_after (bytes_of "actors")) is (λ actors is.
    first (names_after (bytes_of "over")) is (λ over is.
    at_end is (category n actors over))))

-- CATEGORY "QUERY"
unfoldable pub policy_line : List Item → Maybe RulesLine
policy_line is =
    first as_name is (λ n is.
    first as_quoted is (λ t is.
    and_then (at_end is t) (λ t.
    and_then (query_text t) (λ q. just (policy n (length t) q)))))

-- a line of the rules by its first word
unfoldable pub rules_line : List Item → Maybe RulesLine
rules_line is =
    first as_word is (λ w is.
    pick (same w (bytes_of "category")) (category_line is) (pick (same w (bytes_of "policy")) (policy_line is) nothing))

-- a category that is over one whose actors are not all there
unfoldable pub lacks_actor : Rules → List Name → List Name → Bool
lacks_actor r actors over = any (λ c. mem c.name over && not (all (λ a. mem a actors) c.actors)) r.categories

-- a category has a policy already
unfoldable pub has_policy : Rules → Name → Bool
has_policy r c = any (λ p. same p.category c) r.policies

-- the table of faults of a category line
abbrev pub category_faults : Rules → Name → List Name → List Name → List Row
category_faults r n actors over =
    (4 if not (all (λ c. mem c (category_names r)) over))
    ∷ (5 if mem n (category_names r) || twice actors || twice over)
    ∷ (7 if leb max_categories (length r.categories) || ltb max_actors (length actors))
    ∷ (9 if not (mem (bytes_of "requestor") actors) || lacks_actor r actors over)
    ∷ []

-- the table of faults of a policy line
abbrev pub policy_faults : Book → Rules → Name → ℕ → QueryText → List Row
policy_faults b r c bytes q =
    (4 if not (mem c (category_names r)) || has_undeclared b q)
    ∷ (5 if has_policy r c || has_twice q)
    ∷ (6 if has_mistyped b q)
    ∷ (7 if ltb max_policy_bytes bytes || too_many q)
    ∷ (8 if has_from_itself q)
    ∷ []

-- the lowest fault of a line after the lines before
unfoldable pub rules_fault : Book → Rules → RulesLine → Maybe ℕ
rules_fault b r (category n actors over) = lowest (category_faults r n actors over)
rules_fault b r (policy c bytes q) = lowest (policy_faults b r c bytes q)

-- the rules with a line more
unfoldable pub add_rule : Rules → RulesLine → Rules
add_rule r (category n actors over) = record { categories = r.categories ++ (record { name = n; actors = actors; over = over } ∷ []); policies = r.policies }
add_rule r (policy c bytes q) = record { categories = r.categories; policies = r.policies ++ (record { category = c; text = q } ∷ []) }

-- one line of the rules
unfoldable pub rules_step : Book → Rules → Line → Step Rules
rules_step b r l = form_step (and_then (form_of l) rules_line) (λ x. fault_or (rules_fault b r x) (add_rule r x))

-- a category over nothing has a policy: 10 after all lines
unfoldable pub covered : Rules → Outcome Rules
covered r = pick (any (λ c. is_nil c.over && not (has_policy r c.name)) r.categories) (refusal 10 2 0) (accepted r)

-- text 2
unfoldable pub read_rules : Book → Bytes → Outcome Rules
read_rules b s =
    let rules = on_accept (read_lines 2 (rules_step b) 1 (record { categories = []; policies = [] }) (lines_of s)) covered in
    bytes_first 2 max_rules_bytes (λ l. l) s rules
