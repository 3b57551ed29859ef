-- A whole request: its bytes, its one line, and the answer.
use Prim.Native.Nat.{ℕ, ◌+◌, ◌-◌, ◌≤◌, ◌<◌}
use mathlib.Core.Path.{◌≡◌, refl, sym, ap, subst, ◌∙◌}
use mathlib.Core.List.{List, [], ◌∷◌, ◌++◌, map}
use mathlib.Core.Bool.{Bool, true, false}
use native.Mathlib.Omega.{arith}
use lib.ListN.{length, get_or, take, drop, take-append-drop, length-map}
use lib.Seq.{take-append_seam}
use lib.Dec.{ltb, eqb}
use borrow.Author.Tests.{eqb-true, ltb-false, not-false, ne_eqb}
use Rattle.std.specs.Prelude.{Ok, Err}
use Rattle.logic.specs.Tests.{either, below_or_not}
use Rattle.model.specs.Bytes.{Bytes}
use Rattle.model.specs.Choice.{pick, Maybe, nothing, just, and_then}
use Rattle.model.specs.Lists.{is_nil}
use Rattle.model.specs.Items.{line_items}
use Rattle.model.specs.Refusal.{Outcome, accepted, refused, refusal}
use Rattle.model.specs.Lines.{Line, Step, fault, known, form_step, fault_or, step_then, lines_of}
use Rattle.model.specs.Forms.{form_of}
use Rattle.model.specs.Book.{Book}
use Rattle.model.specs.Rules.{Rules}
use Rattle.model.specs.Request.{Claim, Request, RequestLine, request_line, request_fault, request_of, request_step, one_line}
use Rattle.model.specs.Answers.{refusal_of, part_of, name_at}
use Rattle.model.specs.RequestPlaces.{words_from, placed_by, identity_places, slots}
use Rattle.model.specs.declared.Part.{Part}
use Rattle.item_forms.specs.Pieces.{behind}
use Rattle.model.specs.declared.Refusal.{Refusal as RefusalData}
use Rattle.model.specs.declared.RequestRead.{RequestRead}
use Rattle.model.proofs.Outcomes.{never}
use Rattle.text.specs.Places.{past, is_other}
use Rattle.text.specs.Lines.{is_in_line}
use Rattle.text.proofs.PlaceLaws.{drop_at, drop_end, past_stops}
use Rattle.text.proofs.LineLaws.{lines_none, lines_ended, lines_last}
use Rattle.book_tables.specs.View.{name_of}
use Rattle.rules_tables.specs.Layout.{names}
use Rattle.request.specs.declared.Identities.{Identities}
use Rattle.request.specs.Forms.{line_of}
use Rattle.request.specs.Claims.{words_at}
use Rattle.request.specs.Stored.{numbered, ClaimsStored}
use Rattle.request.specs.RequestReads.{Accepts, Refuses, refused_read, ByVerdict, Reads, fed}
use Rattle.request.proofs.WordLaws.{words_fed}

-- a line that ends in a line feed
abbrev pub ended : Bytes → Line
ended s = record { bytes = s; ended = true }

-- what is made of a line, by its form and its fault
module _ (b : Book) (r : Rules) (s : Bytes) (k : Request → Outcome Request) where
  pub line_broken : and_then (line_items s) request_line ≡ nothing → step_then (request_step b r (ended s)) 4 1 k ≡ refusal 3 4 1
  unfolding request_step form_of form_step step_then
  line_broken e = rw e

  pub line_faulty : (x : RequestLine) (n : ℕ) → and_then (line_items s) request_line ≡ just x → request_fault b r x ≡ just n
      → step_then (request_step b r (ended s)) 4 1 k ≡ refusal n 4 1
  unfolding request_step form_of form_step fault_or step_then
  line_faulty x n e f = rw (e, f)

  pub line_known : (x : RequestLine) → and_then (line_items s) request_line ≡ just x → request_fault b r x ≡ nothing
      → step_then (request_step b r (ended s)) 4 1 k ≡ k (request_of b x)
  unfolding request_step form_of form_step fault_or step_then
  line_known x e f = rw (e, f)

-- a line is the part before its line feed
fed_part : (s : Bytes) → part_of (fed s) 0 (length s) ≡ s
unfolding part_of
fed_part s = take-append_seam s (10 ∷ [])

-- a line without a fault is accepted
pub accepts_line : (b : Book) (r : Rules) (nodes : ℕ) (rules : Bytes) (table : List ℕ) (categories : ℕ) (s : Bytes) (w : Part) (k : ℕ) (xs : List Claim)
    (given : Identities)
    → and_then (line_items s) request_line ≡ just (line_of s w xs) → request_fault b r (line_of s w xs) ≡ nothing
    → name_of rules table names k ≡ name_at s w → k < categories
    → ClaimsStored b nodes s (behind w) xs given → drop 2 (words_from false 0 s) ≡ words_at s (behind w)
    → Accepts nodes rules table categories (fed s) (step_then (request_step b r (ended s)) 4 1 accepted)
    (record { verdict = Ok tt; category = k; identities = given.list; count = given.count })
unfolding request_of identity_places
accepts_line b r nodes rules table categories s w k xs given e f n l h o = record {
  request = request_of b (line_of s w xs);
  is = line_known b r s accepted (line_of s w xs) e f;
  category = sym n;
  declared = l;
  identities = sym (h.is (fed s) (fed_part s));
  few = h.few;
  below = h.below;
  counted = h.counted ∙ sym (length-map xs (numbered b));
  whole = h.whole ∙ ap (λ (t : List Part). slots (placed_by t (map (numbered b) xs))) (sym o ∙ ap (drop 2) (sym (words_fed s)));
}

-- a last line without a line feed
line_open : (b : Book) (r : Rules) (s : Bytes) (k : Request → Outcome Request)
    → step_then (request_step b r (record { bytes = s; ended = false })) 4 1 k ≡ refusal 3 4 1
unfolding request_step form_of form_step step_then and_then
line_open b r s k = refl

-- the lines of a request
module _ (b : Book) (r : Rules) (text : Bytes) (to : ℕ) (e : to ≡ past is_in_line text 0) where
  -- what is made of a request of one line, by whether others follow
  abbrev pub only : Bool → Request → Outcome Request
  only t x = pick t (accepted x) (refusal 3 4 2)

  pub no_feed_law : length text ≤ to → one_line b r (lines_of text) ≡ refusal 3 4 1
  unfolding one_line
  no_feed_law l = either (below_or_not 0 (length text))
      (λ m. ap (one_line b r) (lines_last text 0 to e m l) ∙ line_open b r (part_of text 0 (to - 0)) _)
      (λ m. ap (one_line b r) (lines_none text 0 m))

  some_line : (i : ℕ) → i < length text → is_nil (lines_of (drop i text)) ≡ false
  unfolding is_nil
  some_line i l = either (below_or_not (past is_in_line text i) (length text))
      (λ m. ap is_nil (lines_ended text i (past is_in_line text i) refl m))
      (λ m. ap is_nil (lines_last text i (past is_in_line text i) refl l m))

  module _ (l : to < length text) where
    -- the first line, without its line feed
    abbrev pub first_line : Bytes
    first_line = part_of text 0 (to - 0)

    pub first_of : one_line b r (lines_of text) ≡ step_then (request_step b r (ended first_line)) 4 1 (only (is_nil (lines_of (drop (to + 1) text))))
    unfolding one_line
    first_of = ap (one_line b r) (lines_ended text 0 to e l)

    pub alone : length text ≤ to + 1 → one_line b r (lines_of text) ≡ step_then (request_step b r (ended first_line)) 4 1 (only true)
    unfolding is_nil
    alone m = first_of ∙ ap (λ (ls : List Line). step_then (request_step b r (ended first_line)) 4 1 (only (is_nil ls))) (lines_none text (to + 1) m)

    pub followed : to + 1 < length text → one_line b r (lines_of text) ≡ step_then (request_step b r (ended first_line)) 4 1 (only false)
    followed m = first_of ∙ ap (λ (t : Bool). step_then (request_step b r (ended first_line)) 4 1 (only t)) (some_line (to + 1) m)

    feed_at : get_or text to 0 ≡ 10
    unfolding is_other
    feed_at = rw e (eqb-true (get_or text (past is_in_line text 0) 0) 10 (not-false _ (past_stops is_in_line text 0 (omega arith))))

    -- one line alone is the text
    pub whole_text_law : length text ≤ to + 1 → fed first_line ≡ text
    unfolding part_of
    whole_text_law m =
        let z : to - 0 ≡ to = omega arith in
        let last : drop to text ≡ 10 ∷ [] = drop_at text to l ∙ (λ i. feed_at i ∷ drop_end text (to + 1) m i) in
        (λ i. take (z i) text ++ sym last i) ∙ take-append-drop to text

-- the outcome of a line alone, and what is made of it
module _ (x : Step Request) (k : Request → Outcome Request) where
  step_refused : (y : RefusalData) → step_then x 4 1 accepted ≡ refused (refusal_of y) → step_then x 4 1 k ≡ refused (refusal_of y)
  unfolding step_then
  step_refused y h = go x h
    where
      go : (x : Step Request) → step_then x 4 1 accepted ≡ refused (refusal_of y) → step_then x 4 1 k ≡ refused (refusal_of y)
      go (fault n) h = h
      go (known z) h = never (refusal_of y) z (sym h)

  step_accepted : (z : Request) → step_then x 4 1 accepted ≡ accepted z → step_then x 4 1 k ≡ k z
  unfolding step_then refusal
  step_accepted z h = go x h
    where
      go : (x : Step Request) → step_then x 4 1 accepted ≡ accepted z → step_then x 4 1 k ≡ k z
      go (fault n) h = never _ z h
      go (known w) h = let d : w ≡ z = cc in ap k d

-- the answer
module _ (nodes : ℕ) (rules : Bytes) (table : List ℕ) (categories : ℕ) (text : Bytes) where
  pub reads_refused : (o : Outcome Request) (n l : ℕ) (r : RequestRead) → r ≡ refused_read n l → o ≡ refusal n 4 l → Reads nodes rules table categories text o r
  unfolding refusal refusal_of
  reads_refused o n l r e h = subst (λ (x : RequestRead). Reads nodes rules table categories text o x) (sym e)
      (record { is = h; category = refl; identities = refl; count = refl })

  pub reads_as : (o o' : Outcome Request) (r : RequestRead) → o' ≡ o → Reads nodes rules table categories text o r
      → Reads nodes rules table categories text o' r
  reads_as o o' r e h = subst (λ (x : Outcome Request). Reads nodes rules table categories text x r) (sym e) h

  -- the same text
  pub reads_in : (request : Bytes) (o : Outcome Request) (r : RequestRead) → text ≡ request → Reads nodes rules table categories text o r
      → Reads nodes rules table categories request o r
  reads_in request o r e h = subst (λ (t : Bytes). Reads nodes rules table categories t o r) e h

  module _ (x : Step Request) (r : RequestRead) (h : Reads nodes rules table categories text (step_then x 4 1 accepted) r) where
    -- a refusal of the line is that of the request
    pub still_refused : (request : Bytes) (k : Request → Outcome Request) (y : RefusalData) → r.verdict ≡ Err y
        → Reads nodes rules table categories request (step_then x 4 1 k) r
    still_refused request k y e =
        let f = subst (ByVerdict nodes rules table categories text (step_then x 4 1 accepted) r) e h in
        let g : Refuses (step_then x 4 1 k) r y =
        record { is = step_refused x k y f.is; category = f.category; identities = f.identities; count = f.count } in
        subst (ByVerdict nodes rules table categories request (step_then x 4 1 k) r) (sym e) g

    its_request : r.verdict ≡ Ok tt → Accepts nodes rules table categories text (step_then x 4 1 accepted) r
    its_request e = subst (ByVerdict nodes rules table categories text (step_then x 4 1 accepted) r) e h

    -- a second line
    pub second_line : r.verdict ≡ Ok tt → step_then x 4 1 (λ z. pick false (accepted z) (refusal 3 4 2)) ≡ refusal 3 4 2
    second_line e = step_accepted x (λ z. refusal 3 4 2) (its_request e).request (its_request e).is
