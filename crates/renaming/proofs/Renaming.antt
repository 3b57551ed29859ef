-- The theorem of the renaming: what it writes is accepted by the rule of case, and the book read from it is the old one with its later names changed.
use Prim.Native.Nat.{ℕ, ◌<◌, ◌≤◌}
use mathlib.Core.Path.{◌≡◌, refl, sym, ap, ◌∙◌}
use mathlib.Core.List.{List, [], ◌∷◌}
use mathlib.Core.Bool.{false}
use lib.ListN.{length, get_or}
use Rattle.model.specs.Bytes.{Bytes, same}
use Rattle.model.specs.Choice.{Maybe, nothing, just}
use Rattle.model.specs.Limits.{max_book_bytes}
use Rattle.model.specs.Lists.{joined}
use Rattle.model.specs.Names.{Name, same_but_case}
use Rattle.model.specs.Refusal.{accepted, refusal}
use Rattle.model.specs.Lines.{Line, lines_of}
use Rattle.model.specs.Book.{Book, empty_book, node_names}
use Rattle.model.specs.ReadBook.{read_book_by, read_book}
use Rattle.model.specs.Renaming.{later_names, Piece, text_pieces, piece_bytes, old_bytes, renamed, first_stuck, unless_stuck, renamed_book, with_new_names}
use Rattle.model.proofs.Outcomes.{never, accept_bytes, accept_e}
use Rattle.renaming.proofs.AcceptedBook.{book_bytes, all_ended, book_holds, accepted_apart}
use Rattle.renaming.proofs.LaterNames.{all_fit, one_name, new_short}
use Rattle.renaming.proofs.RenamedSteps.{lines_read_anew}
use Rattle.renaming.proofs.RenamedText.{lines_anew, allowed_anew, renamed_none, taken_away}

-- a text t that the renaming writes for a text s
pub record Renamed (s t : Bytes) : Type 0 where
  pub book : Book
  pub read_by_names : read_book_by same s ≡ accepted book
  pub can_have_all : first_stuck s (node_names book) [] (later_names [] (node_names book)) ≡ nothing
  pub text_is : t ≡ renamed (later_names [] (node_names book)) s
  pub read_anew : read_book t ≡ accepted (with_new_names (later_names [] (node_names book)) book)

-- accepted where a name that is stuck would refuse: none is
not_stuck : {A : Type 0} (m : Maybe Name) (ls : List Line) (a t : A) → unless_stuck m ls a ≡ accepted t → (m ≡ nothing) × (t ≡ a)
unfolding unless_stuck refusal
not_stuck nothing ls a t e = (refl, cc)
not_stuck (just n) ls a t e = never _ t e

-- the new text is not too long
new_text_fits : (s : Bytes) (names later : List Name) → length s ≤ max_book_bytes → first_stuck s names [] later ≡ nothing
    → length (renamed later s) ≤ max_book_bytes
new_text_fits s names [] l e = rw (renamed_none s) l
new_text_fits s names (n ∷ later) l e = all_fit s names [] n later e

-- a book of no lines has no names
empty_anew : (later : List Name) → with_new_names later empty_book ≡ empty_book
unfolding with_new_names empty_book
empty_anew later = refl

-- the new text is accepted by the rule of case, as the old book with new names
new_text_read : (s : Bytes) (b : Book) → read_book_by same s ≡ accepted b → first_stuck s (node_names b) [] (later_names [] (node_names b)) ≡ nothing
    → read_book (renamed (later_names [] (node_names b)) s) ≡ accepted (with_new_names (later_names [] (node_names b)) b)
unfolding read_book read_book_by
new_text_read s b r free =
    let old = book_bytes same s b r in
    accept_bytes 1 max_book_bytes (λ l. l) (renamed later s) _ (with_new_names later b) (record {
      short = new_text_fits s names later old.short free;
      allowed = allowed_anew later s old.allowed;
      rest = rw (lines_anew later s (all_ended same 1 empty_book (lines_of s) b old.rest), ← (empty_anew later))
          (lines_read_anew later names (one_name s names free) (λ x m. new_short s names free x ((book_holds same s b r).short x m))
          1 empty_book (lines_of s) b (λ x m. m) old.rest);
    })
  where
    names : List Name
    names = node_names b

    later : List Name
    later = later_names [] names

-- the theorem
pub renaming : (s t : Bytes) → renamed_book s ≡ accepted t → Renamed s t
unfolding renamed_book
renaming s t e =
    let (b, r, u) = accept_e (read_book_by same s) _ t e in
    let later = later_names [] (node_names b) in
    let (free, is) = not_stuck (first_stuck s (node_names b) [] later) (lines_of s) (renamed later s) t u in
    record { book = b; read_by_names = r; can_have_all = free; text_is = is; read_anew = ap read_book is ∙ new_text_read s b r free }

-- no two names of the nodes of the new book are equal but for case, as in every accepted book
pub new_names_apart : (s t : Bytes) (b : Book) → renamed_book s ≡ accepted t → read_book t ≡ accepted b
    → (i j : ℕ) → i < j → j < length (node_names b) → same_but_case (get_or (node_names b) i []) (get_or (node_names b) j []) ≡ false
new_names_apart s t b e r = accepted_apart t b r

-- the old text is the new one without what was put between its pieces
pub old_text_back : (s t : Bytes) → renamed_book s ≡ accepted t → (ps : List Piece) × (t ≡ joined piece_bytes ps) × (s ≡ joined old_bytes ps)
unfolding renamed
old_text_back s t e =
    let r = renaming s t e in
    let later = later_names [] (node_names r.book) in
    (text_pieces later (lines_of s), r.text_is, sym (taken_away later s))
