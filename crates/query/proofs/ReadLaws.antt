-- Reading a query: the refusals 1 and 2, then the lowest fault; and the pattern of one that is accepted can be read.
use Prim.Native.Nat.{ℕ}
use mathlib.Core.Path.{◌≡◌, refl, sym, ap, subst, ◌∙◌}
use mathlib.Core.List.{List, [], ◌∷◌}
use mathlib.Core.Bool.{Bool, true, false}
use native.Mathlib.Omega.{arith}
use Rattle.std.specs.Prelude.{Result, ⊤, Ok, Err}
use Rattle.model.specs.Bytes.{Bytes}
use Rattle.model.specs.Choice.{Maybe, nothing, just}
use Rattle.model.specs.Refusal.{accepted, refusal, refused_if, lowest, ◌if◌}
use Rattle.model.specs.Book.{Book}
use Rattle.model.specs.QueryText.{QueryText}
use Rattle.model.specs.Grammar.{query_text}
use Rattle.model.specs.ReadQuery.{query_fault, text_or_fault, read_query}
use Rattle.model.specs.Answers.{refusal_of}
use Rattle.model.proofs.AllowedBytes.{line_allowed}
use Rattle.model.proofs.AcceptedQuery.{query_accepted}
use Rattle.book_tables.specs.declared.BookCounts.{BookCounts}
use Rattle.book_tables.specs.View.{book_at}
use Rattle.book_tables.specs.Fits.{Fits}
use Rattle.text.specs.Lines.{bytes_of, on_bytes}
use Rattle.text.specs.declared.BytesFault.{BytesFault}
use Rattle.text.specs.declared.BytesFault.TheVariants.{TooLong, BadLine}
use Rattle.text.proofs.LineLaws.{bytes_first_law}
use Rattle.query_faults.specs.TextFault.{number_or, tree_fault, text_fault}
use Rattle.query.specs.PatternRead.{PatternAsked}
use Rattle.query.specs.QueryReads.{QueryReads, refused_with}
use Rattle.model.specs.declared.Refusal.{Refusal}

-- a query that is refused with a number and a line
refused_given : (b : Book) (s : Bytes) (number line : ℕ) (v : Result ⊤ Refusal) → read_query b s ≡ refusal number 3 line → v ≡ refused_with number line → QueryReads b s v
unfolding refusal refusal_of
refused_given b s number line v e h = subst (QueryReads b s) (sym h) e

-- what the bytes of a text are refused for
module _ (b : Book) (s : Bytes) (x : Result (Unit {0}) BytesFault) (h : x ≡ bytes_of 2048 s) where
  by_bytes : read_query b s ≡ on_bytes x 3 (λ l. 1) (text_or_fault b (query_text s))
  unfolding read_query
  by_bytes = bytes_first_law 3 2048 (λ l. 1) s (text_or_fault b (query_text s)) ∙ ap (λ (y : Result (Unit {0}) BytesFault). on_bytes y 3 (λ l. 1) (text_or_fault b (query_text s))) (sym h)

  pub too_long_law : x ≡ Err TooLong → (v : Result ⊤ Refusal) → v ≡ refused_with 1 0 → QueryReads b s v
  unfolding on_bytes
  too_long_law e v k = refused_given b s 1 0 v (by_bytes ∙ ap (λ (y : Result (Unit {0}) BytesFault). on_bytes y 3 (λ l. 1) (text_or_fault b (query_text s))) e) k

  pub bad_byte : (l : ℕ) → x ≡ Err (BadLine l) → (v : Result ⊤ Refusal) → v ≡ refused_with 2 1 → QueryReads b s v
  unfolding on_bytes
  bad_byte l e v k = refused_given b s 2 1 v (by_bytes ∙ ap (λ (y : Result (Unit {0}) BytesFault). on_bytes y 3 (λ l. 1) (text_or_fault b (query_text s))) e) k

-- a text whose bytes are allowed is read as its grammar and its faults say
module _ (b : Book) (s : Bytes) (h : bytes_of 2048 s ≡ Ok tt) where
  by_faults : read_query b s ≡ text_or_fault b (query_text s)
  unfolding on_bytes
  by_faults = by_bytes b s (Ok tt) (sym h)

  -- a table without a number, and with one
  none_lowest : (t u v w x : Bool) → number_or (lowest ((4 if t) ∷ (5 if u) ∷ (6 if v) ∷ (7 if w) ∷ (8 if x) ∷ [])) ≡ 0
      → lowest ((4 if t) ∷ (5 if u) ∷ (6 if v) ∷ (7 if w) ∷ (8 if x) ∷ []) ≡ nothing
  unfolding number_or lowest
  none_lowest true u v w x k = absurd (omega arith)
  none_lowest false true v w x k = absurd (omega arith)
  none_lowest false false true w x k = absurd (omega arith)
  none_lowest false false false true x k = absurd (omega arith)
  none_lowest false false false false true k = absurd (omega arith)
  none_lowest false false false false false k = refl

  no_fault : (q : QueryText) → number_or (query_fault b q) ≡ 0 → query_fault b q ≡ nothing
  unfolding query_fault
  no_fault q k = none_lowest _ _ _ _ _ k

  some_number : (m : Maybe ℕ) (n : ℕ) → n ≡ number_or m → (n ≡ 0 → ⊥) → m ≡ just n
  unfolding number_or
  some_number nothing n e k = absurd (k e)
  some_number (just x) n e k = ap just (sym e)

  tree_clear : (m : Maybe QueryText) → tree_fault b m ≡ 0 → (tree : QueryText) × (text_or_fault b m ≡ accepted tree)
  unfolding tree_fault text_or_fault refused_if
  tree_clear nothing e = absurd (omega arith)
  tree_clear (just q) e = (q, ap (λ m. refused_if m 3 1 (accepted q)) (no_fault q e))

  tree_faulty : (m : Maybe QueryText) (n : ℕ) → n ≡ tree_fault b m → (n ≡ 0 → ⊥) → text_or_fault b m ≡ refusal n 3 1
  unfolding tree_fault text_or_fault refused_if
  tree_faulty nothing n e k = ap (λ n. refusal n 3 1) (sym e)
  tree_faulty (just q) n e k = ap (λ m. refused_if m 3 1 (accepted q)) (some_number (query_fault b q) n e k)

  module _ (n : ℕ) (e : n ≡ text_fault b s) where
    pub query_clear : n ≡ 0 → QueryReads b s (Ok tt)
    unfolding text_fault
    query_clear z = let t = tree_clear (query_text s) (sym e ∙ z) in (t.0, by_faults ∙ t.1)

    pub query_refused : (n ≡ 0 → ⊥) → (v : Result ⊤ Refusal) → v ≡ refused_with n 1 → QueryReads b s v
    unfolding text_fault
    query_refused z v k = refused_given b s n 1 v (by_faults ∙ tree_faulty (query_text s) n e z) k

-- the pattern of an accepted query can be read
pub pattern_asked : (book : Bytes) (words : List ℕ) (c : BookCounts) (s : Bytes) (tree : QueryText) → Fits book words c
    → read_query (book_at book words c) s ≡ accepted tree → PatternAsked book words c s
unfolding text_fault tree_fault number_or
pattern_asked book words c s tree fits e =
    let q = query_accepted (book_at book words c) s tree e in
    record { fits = fits; clear = ap (tree_fault (book_at book words c)) q.is_text ∙ ap number_or q.faultless; allowed = line_allowed 1 s q.allowed }
