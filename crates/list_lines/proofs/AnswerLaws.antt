-- What is printed, from what the book's load and the list say: a refusal, or the rows as they stand in the row words. Assumes nothing.
use Prim.Native.Nat.{ℕ, zero, suc, ◌-◌, ◌*◌, ◌≤◌}
use mathlib.Core.Path.{◌≡◌, refl, sym, ap, ap₂, subst, ◌∙◌}
use mathlib.Core.List.Memᴰ
use mathlib.Core.List.{List, [], ◌∷◌, ◌++◌}
use native.Mathlib.Nat.{le-mul_of_pos_right}
use native.Mathlib.Omega.{arith}
use lib.ListN.{length}
use Rattle.std.specs.Prelude.{Result, Ok, Err}
use Rattle.model.specs.Bytes.{Bytes}
use Rattle.model.specs.Lists.{joined}
use Rattle.model.specs.Refusal.{Refusal, Outcome, accepted, refused, on_accept}
use Rattle.model.specs.Book.{Book, node_names}
use Rattle.model.specs.ReadBook.{read_book}
use Rattle.model.specs.Weave.{asked_query, asked_policies}
use Rattle.model.specs.Service.{with_work, ones, FoundRows, ListAnswer, list_found, rows_asked, list_rows, row_words, list_service}
use Rattle.model.specs.Answers.{refusal_of, list_answer}
use Rattle.model.specs.Printed.{rows_text, refusal_text, outcome_text, names_of, printed}
use Rattle.model.specs.declared.Refusal.{Refusal as RefusalData}
use Rattle.model.specs.declared.RowsSize.{RowsSize}
use Rattle.model.proofs.Outcomes.{never}
use Rattle.model.specs.Refused.{rows_for}
use Rattle.model.specs.RowOrder.{Ascending, NoneTwice}
use Rattle.model.proofs.Refusals.{same_accepted, finding, list_given}
use Rattle.model.proofs.Members.{◌∈◌}
use Rattle.model.proofs.Ascending.{rows_ascend, ascending_none_twice, rows_are_rows}
use Rattle.rows.specs.Buffer.{rows_in, flat, Wide}
use Rattle.rows.specs.BufferLaws.{rows_in_flat}

-- rows of no nodes are all alike, so there is at most one
one_empty_row : (rows : List (List ℕ)) → Wide 0 rows → NoneTwice rows → length rows ≤ 1
one_empty_row [] w u = omega arith
one_empty_row (x ∷ []) w u = omega arith
one_empty_row (x ∷ y ∷ rows) w u = absurd (u.0.0 (empty x (w x (Memᴰ.head refl)) ∙ sym (empty y (w y (Memᴰ.tail (Memᴰ.head refl))))))
  where
    empty : (row : List ℕ) → length row ≡ 0 → row ≡ []
    empty [] e = refl
    empty (n ∷ row) e = absurd (omega arith)

-- rows that fit so many words are not more than the words
few_rows : (width words : ℕ) (rows : List (List ℕ)) → Wide width rows → NoneTwice rows → length rows * width ≤ words → 1 ≤ words → length rows ≤ words
few_rows zero words rows w u h l = omega (arith, one_empty_row rows w u)
few_rows (suc width) words rows w u h l = omega (arith, le-mul_of_pos_right {m = suc width} (length rows) (omega arith))

joined_flat : (rows : List (List ℕ)) → joined (λ row. row) rows ≡ flat rows
unfolding joined flat
joined_flat [] = refl
joined_flat (row ∷ rows) = ap (λ (l : List ℕ). row ++ l) (joined_flat rows)

module _ (book rules query request : Bytes) where
  abbrev found : Outcome FoundRows
  found = list_found 16384 16384 book rules query request

  -- the refusal of a book is printed
  pub book_refused : (r : Refusal) → read_book book ≡ refused r → refusal_text r ≡ printed book rules query request
  unfolding printed list_rows list_found rows_asked with_work on_accept outcome_text
  book_refused r e = sym (rw e)

  -- the refusal of a list is printed
  pub list_refused : (res : Result RowsSize RefusalData) (r : RefusalData) → res ≡ Err r → list_answer res ≡ (list_service 16384 16384 book rules query request).answer
      → refusal_text (refusal_of r) ≡ printed book rules query request
  unfolding printed list_rows list_service list_answer on_accept outcome_text
  list_refused res r e a = go found (sym (ap list_answer e) ∙ a)
    where
      go : (o : Outcome FoundRows) → ◌≡◌ {A = Outcome ListAnswer} (refused (refusal_of r))
          (on_accept o (λ f. accepted (record { rows = length f.rows; width = f.width })))
          → refusal_text (refusal_of r) ≡ outcome_text (names_of (read_book book)) (on_accept o (λ f. accepted f.rows))
      go (accepted f) d = never (refusal_of r) _ d
      go (refused q) d = let same : refusal_of r ≡ q = cc in ap refusal_text same

  -- the rows that the row words then hold are printed: so many, of so many nodes each
  pub record Shown (b : Book) (after : List ℕ) (n w : ℕ) : Type 0 where
    pub fits : n * w ≤ 16384
    pub few : n ≤ 16384
    pub text : rows_text (node_names b) (rows_in w n after) ≡ printed book rules query request

  given : (f : FoundRows) → found ≡ accepted f → (Wide f.width f.rows) × NoneTwice f.rows × (length f.rows * f.width ≤ 16384)
  unfolding asked_query
  given f e =
      let l = list_given 16384 16384 book rules query request f e in
      let g = finding 16384 book rules query request f l.found_rows in
      let rows_are : f.rows ≡ rows_for g.b g.r g.q g.x = ap (λ (z : FoundRows). z.rows) g.found_is in
      let width_is : f.width ≡ length g.q.returns = ap (λ (z : FoundRows). z.width) g.found_is in
      let up = rows_ascend g.b g.x.identities (asked_query g.r g.x g.q) (asked_policies g.r g.x) in (
        λ row m. (rows_are_rows g.b g.x.identities (asked_query g.r g.x g.q) (asked_policies g.r g.x) row
            (subst (λ z. row ∈ z) rows_are m)).0 ∙ sym width_is,
        ascending_none_twice f.rows (subst Ascending (sym rows_are) up),
        l.fits,
      )

  pub list_shown : (res : Result RowsSize RefusalData) (s : RowsSize) → res ≡ Ok s → list_answer res ≡ (list_service 16384 16384 book rules query request).answer
      → (after : List ℕ) → after ≡ (list_service 16384 16384 book rules query request).rows → (b : Book) → read_book book ≡ accepted b → Shown b after s.rows s.width
  unfolding printed list_rows list_service list_answer on_accept outcome_text row_words names_of
  list_shown res s e a after held b read = go found refl (sym (ap list_answer e) ∙ a) held
    where
      go : (o : Outcome FoundRows) → found ≡ o
          → ◌≡◌ {A = Outcome ListAnswer} (accepted (record { rows = s.rows; width = s.width }))
          (on_accept o (λ f. accepted (record { rows = length f.rows; width = f.width })))
          → after ≡ row_words 16384 o → Shown b after s.rows s.width
      go (accepted f) d a held =
          let (wide, once, fits) = given f d in
          let told : ◌≡◌ {A = ListAnswer} (record { rows = s.rows; width = s.width }) (record { rows = length f.rows; width = f.width }) = same_accepted _ _ a in
          let n_is : s.rows ≡ length f.rows = ap (λ (z : ListAnswer). z.rows) told in
          let w_is : s.width ≡ f.width = ap (λ (z : ListAnswer). z.width) told in
          let rows_are : rows_in s.width s.rows after ≡ f.rows =
          ap₂ (λ (x y : ℕ). rows_in x y after) w_is n_is
          ∙ ap (rows_in f.width (length f.rows))
          (held ∙ ap (λ (l : List ℕ). l ++ ones (16384 - length (joined (λ row. row) f.rows))) (joined_flat f.rows))
          ∙ rows_in_flat f.width f.rows _ wide in
          record {
            fits = rw (n_is, w_is) fits;
            few = rw n_is (few_rows f.width 16384 f.rows wide once fits (omega arith));
            text = ap (rows_text (node_names b)) rows_are ∙ sym (rw (read, d));
          }
      go (refused r) d a held = never r _ (sym a)
