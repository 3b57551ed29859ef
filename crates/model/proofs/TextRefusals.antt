-- Each text's refusals, in the paper's order: each is given exactly if its condition holds and no earlier one does. A refusal names its own text.
use Prim.Native.Nat.{ℕ, ◌+◌, ◌<◌, ◌≤◌}
use mathlib.Core.Path.{◌≡◌, refl, sym, ap, subst, ◌∙◌}
use mathlib.Core.Logic.{◌⊎◌, inl, inr, ⊎_elim, ◌↔◌}
use mathlib.Core.List.{List, [], ◌∷◌, ◌++◌}
use mathlib.Core.Bool.{Bool, true, false, not, ◌&&◌}
use native.Mathlib.Omega.{arith}
use lib.ListN.{length}
use lib.Dec.{T, eqb, not_T}
use Rattle.model.specs.Bytes.{Bytes}
use Rattle.model.specs.Choice.{pick, Maybe, nothing, just, and_then}
use Rattle.model.specs.Lists.{is_nil, any, keep}
use Rattle.model.specs.Refusal.{Refusal, Outcome, accepted, refused, on_accept, refusal, refused_if}
use Rattle.model.specs.Lines.{is_allowed, bad_line, Line, lines_of, Step, fault, known, step_then, read_lines, refused_at, bytes_first}
use Rattle.model.specs.Forms.{form_of}
use Rattle.model.specs.Book.{Book, empty_book}
use Rattle.model.specs.BookLines.{BookLine, book_line}
use Rattle.model.specs.Names.{same_but_case}
use Rattle.model.specs.ReadBook.{NamesAlike, line_fault, add_line, book_step, read_book_by, read_book}
use Rattle.model.specs.QueryText.{QueryText}
use Rattle.model.specs.Grammar.{query_text}
use Rattle.model.specs.ReadQuery.{query_fault, text_or_fault, read_query}
use Rattle.model.specs.Rules.{Category, Rules}
use Rattle.model.specs.ReadRules.{RulesLine, rules_line, has_policy, rules_fault, add_rule, rules_step, covered, read_rules}
use Rattle.model.specs.Request.{Request, RequestLine, request_line, request_fault, request_of, request_step, one_line, read_request}
use Rattle.model.specs.Graph.{Each}
use Rattle.model.specs.Refused.{returned}
use Rattle.model.proofs.Decides.{and_iff}
use Rattle.model.proofs.Members.{◌∈◌, test, is_true, is_false, any_e, any_i}
use Rattle.model.proofs.Faults.{over_refused, number_refused, need_refused, step_fault, AtLine, first_line_law}

-- a number of line feeds
abbrev pub line_feeds : Bytes → ℕ
line_feeds s = length (keep (λ b. eqb b 10) s)

-- the first byte not allowed is on line l, counted from n
pub record BadByte (n : ℕ) (s : Bytes) (l : ℕ) : Type 0 where
  pub earlier : Bytes
  pub byte : ℕ
  pub later : Bytes
  pub stands : s ≡ earlier ++ (byte ∷ later)
  pub earlier_allowed : Each (λ b. T (is_allowed b)) earlier
  pub not_allowed : T (is_allowed byte) → ⊥
  pub at : l ≡ n + line_feeds earlier

-- 2 names the line of the first byte not allowed
pub first_bad_byte : (n : ℕ) (s : Bytes) (l : ℕ) → (bad_line n s ≡ just l) ↔ BadByte n s l
unfolding bad_line keep
first_bad_byte n s l = (
  first n s,
  λ h. subst (λ z. bad_line n z ≡ just l) (sym h.stands)
      (back n h.earlier h.byte h.later h.earlier_allowed h.not_allowed h.at),
)
  where
    count : (n : ℕ) (b : ℕ) (s : Bytes) → (n + pick (eqb b 10) 1 0) + line_feeds s ≡ n + line_feeds (b ∷ s)
    count n b s = go (eqb b 10)
      where
        go : (t : Bool) → (n + pick t 1 0) + line_feeds s ≡ n + length (pick t (b ∷ keep (λ b. eqb b 10) s) (keep (λ b. eqb b 10) s))
        go true = omega arith
        go false = omega arith

    first : (n : ℕ) (s : Bytes) → bad_line n s ≡ just l → BadByte n s l
    first n [] e = let z : ◌≡◌ {A = ℕ} 0 1 = cc in absurd (omega arith)
    first n (b ∷ s) e = ⊎_elim
        (λ t. let h = first (n + pick (eqb b 10) 1 0) s (rw (is_true (is_allowed b) t) at e) in
        record {
          earlier = b ∷ h.earlier;
          byte = h.byte;
          later = h.later;
          stands = ap (λ z. b ∷ z) h.stands;
          earlier_allowed =
              (t, h.earlier_allowed);
          not_allowed = h.not_allowed;
          at = h.at ∙ count n b h.earlier;
        })
        (λ t. let d : n ≡ l = cc (rw (is_false (is_allowed b) t) at e) in
        record { earlier = []; byte = b; later = s; stands = refl; earlier_allowed = tt; not_allowed = t; at = omega arith })
        (test (is_allowed b))

    back : (n : ℕ) (earlier : Bytes) (b : ℕ) (later : Bytes) → Each (λ b. T (is_allowed b)) earlier → (T (is_allowed b) → ⊥) → l ≡ n + line_feeds earlier
        → bad_line n (earlier ++ (b ∷ later)) ≡ just l
    back n [] b later u t e = let d : n ≡ l = omega arith in rw (is_false (is_allowed b) t, d) refl
    back n (a ∷ earlier) b later u t e = rw (is_true (is_allowed a) u.0)
        (back (n + pick (eqb a 10) 1 0) earlier b later u.1 t (e ∙ sym (count n a earlier)))

-- a text's refusals: 1, then 2, then those of its own
pub data OfText (t limit : ℕ) (line : ℕ → ℕ) (s : Bytes) (Own : Refusal → Type 0) (f : Refusal) : Type 0 where
  too_long_law : limit < length s → f ≡ returned 1 t 0 → OfText t limit line s Own f
  bad_byte : {l : ℕ} → length s ≤ limit → bad_line 1 s ≡ just l → f ≡ returned 2 t (line l) → OfText t limit line s Own f
  own : length s ≤ limit → bad_line 1 s ≡ nothing → Own f → OfText t limit line s Own f

byte_refused : {A : Type 0} (m : Maybe ℕ) (t : ℕ) (line : ℕ → ℕ) (o : Outcome A) (f : Refusal)
    → (refused_at m t line o ≡ refused f) ↔ (((l : ℕ) × (m ≡ just l) × (f ≡ returned 2 t (line l))) ⊎ ((m ≡ nothing) × (o ≡ refused f)))
unfolding refused_at refused_if
byte_refused nothing t line o f = (λ e. inr (refl, e), λ u. ⊎_elim (λ h. let z : ◌≡◌ {A = ℕ} 0 1 = cc h.1 in absurd (omega arith)) (λ h. h.1) u)
byte_refused {A} (just l) t line o f =
    let r = number_refused (just 2) t (line l) o f in (
      λ e. ⊎_elim (λ h. inl (l, refl, (let d : 2 ≡ h.0 = cc h.1 in rw d h.2)))
          (λ h. inr (let z : ◌≡◌ {A = ℕ} 0 1 = cc h.0 in absurd (omega arith))) (r.0 e),
      λ u. ⊎_elim (λ h. r.1 (inl (2, refl, (let d : l ≡ h.0 = cc h.1 in rw d h.2))))
          (λ h. let z : ◌≡◌ {A = ℕ} 0 1 = cc h.0 in absurd (omega arith)) u,
    )

text_refused : {A : Type 0} (t limit : ℕ) (line : ℕ → ℕ) (s : Bytes) (o : Outcome A) (Own : Refusal → Type 0) → ((f : Refusal) → (o ≡ refused f) ↔ Own f)
    → (f : Refusal) → (bytes_first t limit line s o ≡ refused f) ↔ OfText t limit line s Own f
unfolding bytes_first refusal
text_refused t limit line s o Own h f = (
  λ e. ⊎_elim (λ u. too_long_law u.0 u.1)
      (λ u. ⊎_elim (λ v. bad_byte u.0 v.1 v.2) (λ v. own u.0 v.0 ((h f).0 v.1)) (bytes.0 u.1)) (long.0 e),
  back,
)
  where
    bytes : (refused_at (bad_line 1 s) t line o ≡ refused f) ↔
        (((l : ℕ) × (bad_line 1 s ≡ just l) × (f ≡ returned 2 t (line l))) ⊎ ((bad_line 1 s ≡ nothing) × (o ≡ refused f)))
    bytes = byte_refused (bad_line 1 s) t line o f

    long : (bytes_first t limit line s o ≡ refused f) ↔
        (((limit < length s) × (f ≡ returned 1 t 0)) ⊎ ((length s ≤ limit) × (refused_at (bad_line 1 s) t line o ≡ refused f)))
    long = over_refused limit (length s) (returned 1 t 0) (refused_at (bad_line 1 s) t line o) f

    back : OfText t limit line s Own f → bytes_first t limit line s o ≡ refused f
    back (too_long_law l e) = long.1 (inl (l, e))
    back (bad_byte {l = k} l b e) = long.1 (inr (l, bytes.1 (inl (k, b, e))))
    back (own l b u) = long.1 (inr (l, bytes.1 (inr (b, (h f).1 u))))

-- text 1, by any rule for node names: the book is refused by 1, 2, then lines upwards
pub book_refused_by : (alike : NamesAlike) (s : Bytes) (f : Refusal)
    → (read_book_by alike s ≡ refused f) ↔ OfText 1 65536 (λ l. l) s (AtLine 1 (book_step alike) 1 empty_book (lines_of s)) f
unfolding read_book_by
book_refused_by alike s f =
    text_refused 1 65536 (λ l. l) s (read_lines 1 (book_step alike) 1 empty_book (lines_of s)) (AtLine 1 (book_step alike) 1 empty_book (lines_of s))
    (first_line_law 1 (book_step alike) 1 empty_book (lines_of s)) f

-- a book is read by names that are equal but for case
pub book_refused : (s : Bytes) (f : Refusal)
    → (read_book s ≡ refused f) ↔ OfText 1 65536 (λ l. l) s (AtLine 1 (book_step same_but_case) 1 empty_book (lines_of s)) f
unfolding read_book
book_refused s f = book_refused_by same_but_case s f

-- a book line's fault: a broken grammar, then its table
pub book_line_fault : (alike : NamesAlike) (b : Book) (l : Line) (n : ℕ)
    → (book_step alike b l ≡ fault n) ↔ (((and_then (form_of l) book_line ≡ nothing) × (n ≡ 3)) ⊎
    ((x : BookLine) × (and_then (form_of l) book_line ≡ just x) × (line_fault alike b x ≡ just n)))
unfolding book_step
book_line_fault alike b l n = step_fault (and_then (form_of l) book_line) (line_fault alike b) (add_line b) n

-- rules of no lines
abbrev no_rules : Rules
no_rules = record { categories = []; policies = [] }

-- text 2: lines upwards, then 10 for a category over nothing without a policy
pub data OfRules (b : Book) (ls : List Line) (f : Refusal) : Type 0 where
  at_line : AtLine 2 (rules_step b) 1 no_rules ls f → OfRules b ls f
  no_policy : {r : Rules} {c : Category} → read_lines 2 (rules_step b) 1 no_rules ls ≡ accepted r → c ∈ r.categories → T (is_nil c.over)
      → (T (has_policy r c.name) → ⊥) → f ≡ returned 10 2 0 → OfRules b ls f

covered_refused : (r : Rules) (f : Refusal)
    → (covered r ≡ refused f) ↔ ((c : Category) × (c ∈ r.categories) × T (is_nil c.over) × (T (has_policy r c.name) → ⊥) × (f ≡ returned 10 2 0))
unfolding covered refusal
covered_refused r f = ⊎_elim
    (λ t. rw (is_true (any bare r.categories) t) (
      λ e. let c = any_e bare r.categories t in let u = (and_iff (is_nil c.0.over) (not (has_policy r c.0.name))).1 c.2 in
          (c.0, c.1, u.0, not_both (has_policy r c.0.name) u.1, cc),
      λ u. ap refused (sym u.4),
    ))
    (λ t. rw (is_false (any bare r.categories) t) (
      λ e. let z : ◌≡◌ {A = ℕ} 0 1 = cc in absurd (omega arith),
      λ u. absurd (t (any_i bare r.categories u.0 u.1
          ((and_iff (is_nil u.0.over) (not (has_policy r u.0.name))).0 (u.2, not_T (has_policy r u.0.name) u.3)))),
    ))
    (test (any bare r.categories))
  where
    bare : Category → Bool
    bare c = is_nil c.over && not (has_policy r c.name)

    not_both : (b : Bool) → T (not b) → T b → ⊥
    not_both true n t = n
    not_both false n t = t

-- the rules are refused by 1, 2, then those
pub rules_refused : (b : Book) (s : Bytes) (f : Refusal) → (read_rules b s ≡ refused f) ↔ OfText 2 16384 (λ l. l) s (OfRules b (lines_of s)) f
unfolding read_rules
rules_refused b s f = text_refused 2 16384 (λ l. l) s (on_accept (read_lines 2 (rules_step b) 1 no_rules (lines_of s)) covered) (OfRules b (lines_of s)) own_refused f
  where
    own_refused : (f : Refusal) → (on_accept (read_lines 2 (rules_step b) 1 no_rules (lines_of s)) covered ≡ refused f) ↔ OfRules b (lines_of s) f
    own_refused f = (
      λ e. ⊎_elim (λ u. at_line ((first_line_law 2 (rules_step b) 1 no_rules (lines_of s) f).0 u))
          (λ u. let c = (covered_refused u.0 f).0 u.2 in no_policy u.1 c.1 c.2 c.3 c.4) (need.0 e),
      back,
    )
      where
        need : (on_accept (read_lines 2 (rules_step b) 1 no_rules (lines_of s)) covered ≡ refused f) ↔
            ((read_lines 2 (rules_step b) 1 no_rules (lines_of s) ≡ refused f) ⊎
            ((r : Rules) × (read_lines 2 (rules_step b) 1 no_rules (lines_of s) ≡ accepted r) × (covered r ≡ refused f)))
        need = need_refused (read_lines 2 (rules_step b) 1 no_rules (lines_of s)) covered f

        back : OfRules b (lines_of s) f → on_accept (read_lines 2 (rules_step b) 1 no_rules (lines_of s)) covered ≡ refused f
        back (at_line u) = need.1 (inl ((first_line_law 2 (rules_step b) 1 no_rules (lines_of s) f).1 u))
        back (no_policy {r} {c} a m i h e) = need.1 (inr (r, a, (covered_refused r f).1 (c, m, i, h, e)))

-- a rules line's fault: a broken grammar, then its table
pub rules_line_fault : (b : Book) (r : Rules) (l : Line) (n : ℕ)
    → (rules_step b r l ≡ fault n) ↔ (((and_then (form_of l) rules_line ≡ nothing) × (n ≡ 3)) ⊎
    ((x : RulesLine) × (and_then (form_of l) rules_line ≡ just x) × (rules_fault b r x ≡ just n)))
unfolding rules_step
rules_line_fault b r l n = step_fault (and_then (form_of l) rules_line) (rules_fault b r) (add_rule r) n

-- text 3: a broken grammar, then the table
pub data OfQuery (b : Book) (s : Bytes) (f : Refusal) : Type 0 where
  broken : query_text s ≡ nothing → f ≡ returned 3 3 1 → OfQuery b s f
  has_fault : {q : QueryText} {n : ℕ} → query_text s ≡ just q → query_fault b q ≡ just n → f ≡ returned n 3 1 → OfQuery b s f

-- the query is refused by 1, 2, then those, each but 1 on line 1
pub query_refused : (b : Book) (s : Bytes) (f : Refusal) → (read_query b s ≡ refused f) ↔ OfText 3 2048 (λ l. 1) s (OfQuery b s) f
unfolding read_query text_or_fault refusal
query_refused b s f = text_refused 3 2048 (λ l. 1) s (text_or_fault b (query_text s)) (OfQuery b s) (λ g. (first g (query_text s) refl, back g)) f
  where
    first : (f : Refusal) (m : Maybe QueryText) → query_text s ≡ m → text_or_fault b m ≡ refused f → OfQuery b s f
    first f nothing d e = broken d (cc)
    first f (just q) d e = ⊎_elim (λ u. has_fault d u.1 u.2) (λ u. let z : ◌≡◌ {A = ℕ} 0 1 = cc u.1 in absurd (omega arith))
        ((number_refused (query_fault b q) 3 1 (accepted q) f).0 e)

    back : (f : Refusal) → OfQuery b s f → text_or_fault b (query_text s) ≡ refused f
    back f (broken d e) = rw (d, e) refl
    back f (has_fault {q} {n} d k e) = rw d ((number_refused (query_fault b q) 3 1 (accepted q) f).1 (inl (n, k, e)))

-- text 4: no line, the first line's fault, a second line
pub data OfRequest (b : Book) (r : Rules) (ls : List Line) (f : Refusal) : Type 0 where
  no_line : ls ≡ [] → f ≡ returned 3 4 1 → OfRequest b r ls f
  at_line : {l : Line} {more : List Line} {n : ℕ} → ls ≡ l ∷ more → request_step b r l ≡ fault n → f ≡ returned n 4 1 → OfRequest b r ls f
  second_line : {l k : Line} {more : List Line} {x : Request} → ls ≡ l ∷ k ∷ more → request_step b r l ≡ known x → f ≡ returned 3 4 2 → OfRequest b r ls f

-- the request is refused by 1, 2, then those
pub request_refused : (b : Book) (r : Rules) (s : Bytes) (f : Refusal)
    → (read_request b r s ≡ refused f) ↔ OfText 4 2048 (λ l. l) s (OfRequest b r (lines_of s)) f
unfolding read_request one_line step_then refusal is_nil
request_refused b r s f = text_refused 4 2048 (λ l. l) s (one_line b r (lines_of s)) (OfRequest b r (lines_of s)) (λ g. (first g (lines_of s) refl, back g)) f
  where
    first : (f : Refusal) (ls : List Line) → lines_of s ≡ ls → one_line b r ls ≡ refused f → OfRequest b r (lines_of s) f
    first f [] d e = no_line d (cc)
    first f (l ∷ ls) d e = go (request_step b r l) refl ls d e
      where
        go : (y : Step Request) → request_step b r l ≡ y → (ls : List Line) → lines_of s ≡ l ∷ ls
            → step_then y 4 1 (λ x. pick (is_nil ls) (accepted x) (refusal 3 4 2)) ≡ refused f → OfRequest b r (lines_of s) f
        go (fault n) k ls d e = at_line d k (cc)
        go (known x) k [] d e = let z : ◌≡◌ {A = ℕ} 0 1 = cc in absurd (omega arith)
        go (known x) k (m ∷ ls) d e = second_line d k (cc)

    back : (f : Refusal) → OfRequest b r (lines_of s) f → one_line b r (lines_of s) ≡ refused f
    back f (no_line d e) = rw (d, e) refl
    back f (at_line d k e) = rw (d, k, e) refl
    back f (second_line d k e) = rw (d, k, e) refl

-- the request line's fault: a broken grammar, then its table
pub request_line_fault : (b : Book) (r : Rules) (l : Line) (n : ℕ)
    → (request_step b r l ≡ fault n) ↔ (((and_then (form_of l) request_line ≡ nothing) × (n ≡ 3)) ⊎
    ((x : RequestLine) × (and_then (form_of l) request_line ≡ just x) × (request_fault b r x ≡ just n)))
unfolding request_step
request_line_fault b r l n = step_fault (and_then (form_of l) request_line) (request_fault b r) (request_of b) n

-- a refusal of a text names that text
names_text_law : {t limit : ℕ} {line : ℕ → ℕ} {s : Bytes} {Own : Refusal → Type 0} {f : Refusal} → (Own f → f.text ≡ t) → OfText t limit line s Own f → f.text ≡ t
names_text_law h (too_long_law l e) = ap (λ z. z.text) e
names_text_law h (bad_byte l b e) = ap (λ z. z.text) e
names_text_law h (own l b u) = h u

-- a refusal of the book names text 1
pub book_is_text_1 : (s : Bytes) (f : Refusal) → read_book s ≡ refused f → f.text ≡ 1
book_is_text_1 s f e = names_text_law (λ u. u.of_text) ((book_refused s f).0 e)

-- a refusal of the rules names text 2
pub rules_are_text_2 : (b : Book) (s : Bytes) (f : Refusal) → read_rules b s ≡ refused f → f.text ≡ 2
rules_are_text_2 b s f e = names_text_law go ((rules_refused b s f).0 e)
  where
    go : OfRules b (lines_of s) f → f.text ≡ 2
    go (at_line u) = u.of_text
    go (no_policy a m i h e) = ap (λ z. z.text) e

-- a refusal of the query names text 3
pub query_is_text_3 : (b : Book) (s : Bytes) (f : Refusal) → read_query b s ≡ refused f → f.text ≡ 3
query_is_text_3 b s f e = names_text_law go ((query_refused b s f).0 e)
  where
    go : OfQuery b s f → f.text ≡ 3
    go (broken d e) = ap (λ z. z.text) e
    go (has_fault d k e) = ap (λ z. z.text) e

-- a refusal of the request names text 4
pub request_is_text_4 : (b : Book) (r : Rules) (s : Bytes) (f : Refusal) → read_request b r s ≡ refused f → f.text ≡ 4
request_is_text_4 b r s f e = names_text_law go ((request_refused b r s f).0 e)
  where
    go : OfRequest b r (lines_of s) f → f.text ≡ 4
    go (no_line d e) = ap (λ z. z.text) e
    go (at_line d k e) = ap (λ z. z.text) e
    go (second_line d k e) = ap (λ z. z.text) e
