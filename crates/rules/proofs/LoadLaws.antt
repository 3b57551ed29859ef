-- The rules line by line: rules of no lines, what a line gives, the lines so far, and all of them.
use Prim.Native.Nat.{ℕ, ◌+◌, ◌-◌, ◌≤◌, ◌<◌}
use mathlib.Core.Path.{◌≡◌, refl, sym, ap, ◌∙◌, subst}
use mathlib.Core.List.{List}
use mathlib.Core.Bool.{Bool, true, false}
use native.Mathlib.Omega.{arith}
use lib.ListN.{length, take, drop, length-drop}
use lib.Seq.{length-take-le}
use borrow.Author.Tests.{lt-ltb, le-ltb}
use Rattle.rules_tables.specs.Layout.{all_rules_words}
use Rattle.std.specs.Prelude.{Option, None, Some, Result, Ok, Err}
use Rattle.model.specs.Bytes.{Bytes}
use Rattle.model.specs.Choice.{Maybe, and_then}
use Rattle.model.specs.Lines.{Step, fault, known, form_step, read_lines, lines_of}
use Rattle.model.specs.Items.{line_items}
use Rattle.model.specs.Forms.{form_of}
use Rattle.model.specs.Refusal.{Outcome, accepted, refusal, on_accept}
use Rattle.model.specs.Book.{Book}
use Rattle.model.specs.Rules.{Rules}
use Rattle.model.specs.ReadRules.{RulesLine, rules_line, rules_step, covered}
use Rattle.model.specs.Answers.{part_of}
use Rattle.model.specs.declared.Part.{Part}
use Rattle.text.specs.Places.{past}
use Rattle.text.specs.Lines.{is_in_line, line_at}
use Rattle.book_tables.specs.declared.BookCounts.{BookCounts}
use Rattle.book_tables.specs.Listed.{listed}
use Rattle.rules_tables.specs.declared.RulesCounts.{RulesCounts}
use Rattle.rules_tables.specs.View.{rules_at}
use Rattle.rules_tables.specs.Fits.{Fits}
use Rattle.rules_tables.specs.Enforced.{uncovered_in}
use Rattle.rules_tables.proofs.PolicyLaws.{covered_by}
use Rattle.rules.specs.declared.RulesForm.{RulesForm}
use Rattle.rules.specs.declared.RulesForm.TheVariants.{Category, Policy}
use Rattle.rules.specs.Forms.{FormRead, CategoryRead, PolicyRead}
use Rattle.rules.specs.Steps.{step_of, Stepped}
use Rattle.rules.specs.Loaded.{no_rules, FormAsked, LineAsked, Reading}
use Rattle.text.proofs.LineReads.{line_forward, line_inside, lines_fault, lines_known, lines_over}

-- rules of no lines
module _ (text : Bytes) (words : List ℕ) (c : RulesCounts) (none : c.categories ≡ 0) (no_policy : c.policies ≡ 0) where
  pub empty_is : rules_at text words c ≡ no_rules
  unfolding rules_at listed
  empty_is = rw (none, no_policy)

  pub empty_fits : all_rules_words ≤ length words → Fits text words c
  empty_fits room = record {
    room = room;
    few = omega arith;
    few_policies = omega arith;
    named = record { inside = λ i l. absurd (omega arith); differ = λ i j l m e. absurd (omega arith) };
    each = λ k l. absurd (omega arith);
    policies = λ i l. absurd (omega arith);
    one_each = λ i j l m e. absurd (omega arith);
  }

  pub reading_start : (b : Book) → all_rules_words ≤ length words → Reading b text words words 0 1 c
  reading_start b room = record {
    size = refl;
    fits = empty_fits room;
    inside = omega arith;
    few = omega arith;
    is = ap (λ (r : Rules). read_lines 2 (rules_step b) 1 r (lines_of text)) empty_is;
  }

-- what a form says, by its case
module _ (s : Bytes) (line : Maybe RulesLine) (r : Option RulesForm) (h : FormRead s line r) where
  pub of_category : (cat : Part) (a o : ℕ) → r ≡ Some (Category cat a o) → CategoryRead s line cat a o
  of_category cat a o e = subst (FormRead s line) e h

  pub of_policy_law : (cat t : Part) → r ≡ Some (Policy cat t) → PolicyRead s line cat t
  of_policy_law cat t e = subst (FormRead s line) e h

  -- a line without a form: 3
  pub of_none : (b : Book) (x : Rules) → r ≡ None → step_of b x line ≡ fault 3
  unfolding step_of form_step
  of_none b x e = rw (subst (FormRead s line) e h)

-- a last line without a line feed: 3
pub line_open : (text : Bytes) (from to : ℕ) (b : Book) (r : Rules) → length text ≤ to → rules_step b r (line_at text from to) ≡ fault 3
unfolding rules_step line_at form_of form_step and_then
line_open text from to b r h = rw (le-ltb to (length text) h)

-- a line that ends in a line feed goes by its form
pub line_closed : (text : Bytes) (from to : ℕ) (b : Book) (r : Rules) → to < length text
    → rules_step b r (line_at text from to) ≡ step_of b r (and_then (line_items (part_of text from (to - from))) rules_line)
unfolding rules_step line_at form_of step_of
line_closed text from to b r h = rw (lt-ltb to (length text) h)

-- what its form asks
pub line_asked : (book : Bytes) (words : List ℕ) (counts : BookCounts) (text : Bytes) (rules : List ℕ) (c : RulesCounts) (from to : ℕ)
    → LineAsked book words counts text rules c from to
    → FormAsked book words counts text rules c (take (to - from) (drop from text)) from
unfolding part_of
line_asked book words counts text rules c from to a =
    let n : length (take (to - from) (drop from text)) ≡ to - from = length-take-le (to - from) (drop from text)
    (omega (arith, length-drop from text, a.inside)) in
    record {
      book_fits = a.book_fits;
      fits = a.fits;
      short = a.short;
      line = record { is = ap (λ (k : ℕ). take k (drop from text)) n; inside = omega (arith, n, a.inside, a.forward) };
    }

-- what a line's step says, by its case
pub step_refuses : (text : Bytes) (words : List ℕ) (s : Step Rules) (r : Result RulesCounts ℕ) (n : ℕ) → r ≡ Err n → Stepped text words r s → s ≡ fault n
step_refuses text words s r n e h = subst (λ (x : Result RulesCounts ℕ). Stepped text words x s) e h

pub step_adds : (text : Bytes) (words : List ℕ) (s : Step Rules) (r : Result RulesCounts ℕ) (c : RulesCounts) → r ≡ Ok c → Stepped text words r s
    → (s ≡ known (rules_at text words c)) × Fits text words c
step_adds text words s r c e h = subst (λ (x : Result RulesCounts ℕ). Stepped text words x s) e h

-- the lines so far
module _ (b : Book) (text : Bytes) (before words : List ℕ) (at line : ℕ) (c : RulesCounts) (h : Reading b text before words at line c) where
  abbrev of_lines : Outcome Rules
  of_lines = on_accept (read_lines 2 (rules_step b) 1 no_rules (lines_of text)) covered

  -- no line is left
  pub reading_done : length text ≤ at → of_lines ≡ covered (rules_at text words c)
  unfolding on_accept
  reading_done l = ap (λ (o : Outcome Rules). on_accept o covered) (sym h.is ∙ lines_over text at 2 (rules_step b) line (rules_at text words c) l)

  -- one line more
  module _ (to : ℕ) (e : to ≡ past is_in_line text at) (l : at < length text) (words' : List ℕ) (s : Result RulesCounts ℕ)
      (d : Stepped text words' s (rules_step b (rules_at text words c) (line_at text at to))) where
    pub reading_fault : (n : ℕ) → s ≡ Err n → of_lines ≡ refusal n 2 line
    unfolding on_accept refusal
    reading_fault n q = ap (λ (o : Outcome Rules). on_accept o covered)
        (sym h.is ∙ lines_fault text at to e l 2 (rules_step b) line (rules_at text words c) n (step_refuses text words' _ s n q d))

    pub reading_on : (c' : RulesCounts) → s ≡ Ok c' → length words' ≡ length words → Reading b text before words' (to + 1) (line + 1) c'
    reading_on c' q z =
        let k = step_adds text words' _ s c' q d in
        record {
          size = z ∙ h.size;
          fits = k.1;
          inside = omega (arith, line_inside text at to e l);
          few = omega (arith, h.few, line_forward text at to e l);
          is = sym (lines_known text at to e l 2 (rules_step b) line (rules_at text words c) (rules_at text words' c') k.0) ∙ h.is;
        }

-- 10, or the rules
module _ (text : Bytes) (words : List ℕ) (c : RulesCounts) (f : Fits text words c) (x : Bool) (e : x ≡ uncovered_in words c) where
  pub uncovered_refused : x ≡ true → covered (rules_at text words c) ≡ refusal 10 2 0
  uncovered_refused h = covered_by text words c f ∙ rw (← e, h)

  pub covered_accepted : x ≡ false → covered (rules_at text words c) ≡ accepted (rules_at text words c)
  covered_accepted h = covered_by text words c f ∙ rw (← e, h)
