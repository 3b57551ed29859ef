-- The pieces of a text of allowed bytes are written as they are read.
use Prim.Native.Nat.{ℕ, zero, suc, ◌-◌}
use mathlib.Core.Logic.{⊎_elim}
use mathlib.Core.List.{List, [], ◌∷◌}
use mathlib.Core.Bool.{Bool, true, false}
use lib.Dec.{T}
use Rattle.model.specs.Bytes.{Bytes, bytes_of, same}
use Rattle.model.specs.Choice.{pick, Maybe, nothing, just, and_then}
use Rattle.model.specs.Names.{mem}
use Rattle.model.specs.Words.{Got}
use Rattle.model.specs.Values.{Value, bool}
use Rattle.model.specs.Forms.{never_names, name_of, truth_of}
use Rattle.model.specs.Signs.{Sign, word, whole, text, mark, broken, is_word, is_mark, sign_name, sign_value, next, expect}
use Rattle.model.specs.QueryText.{differ, demand}
use Rattle.model.specs.Grammar.{Piece, start, goes, comes, asks, returns, Spot, at_start, in_chain, in_where, in_return, spot_after, sign_relation}
use Rattle.model.specs.Grammar.{vertex_at, start_at, link_at, condition_at, return_at, piece_at, ends_at, pieces}
use Rattle.model.specs.Graph.{Each}
use Rattle.model.proofs.Members.{test, is_true, is_false}
use Rattle.model.proofs.WrittenConditions.{IsName, WritableValue, WritableCondition}
use Rattle.model.proofs.WritableSigns.{IfThere, pick_case, then_case, WritableSign}

-- a piece of names, values and conditions that can be written
abbrev pub WritablePiece : Piece → Type 0
WritablePiece (start v) = IsName v
WritablePiece (goes e l v) = IsName e × IsName l × IsName v
WritablePiece (comes e l v) = IsName e × IsName l × IsName v
WritablePiece (asks c) = WritableCondition c
WritablePiece (returns v) = IsName v

truth_writable : (w : Bytes) → IfThere WritableValue (truth_of w)
unfolding truth_of
truth_writable w = pick_case (IfThere WritableValue) (same w (bytes_of "true")) (just (bool true))
    (pick (same w (bytes_of "false")) (just (bool false)) nothing) (λ t. tt)
    (pick_case (IfThere WritableValue) (same w (bytes_of "false")) (just (bool false)) nothing (λ t. tt) tt)

value_writable : (t : Sign) → WritableSign t → IfThere WritableValue (sign_value t)
unfolding sign_value
value_writable (word w) h = truth_writable w
value_writable (whole n) h = h
value_writable (text t) h = h
value_writable (mark m) h = tt
value_writable broken h = tt

-- nothing is said of what is there
pub any_where : {A : Type 0} (m : Maybe A) → IfThere (λ a. T true) m
any_where nothing = tt
any_where (just a) = tt

module _ {B : Type 0} (P : B → Type 0) where
  next_name : (ts : List Sign) (f : Bytes → List Sign → Maybe B) → Each WritableSign ts
      → ((v : Bytes) (us : List Sign) → IsName v → Each WritableSign us → IfThere P (f v us))
      → IfThere P (next sign_name ts f)
  unfolding next sign_name name_of and_then
  next_name [] f h k = tt
  next_name (word w ∷ ts) f h k = ⊎_elim (λ t. rw (is_true (mem w never_names) t) tt)
      (λ t. rw (is_false (mem w never_names) t) (k w ts (h.0, is_false (mem w never_names) t) h.1)) (test (mem w never_names))
  next_name (whole n ∷ ts) f h k = tt
  next_name (text t ∷ ts) f h k = tt
  next_name (mark m ∷ ts) f h k = tt
  next_name (broken ∷ ts) f h k = tt

  next_value : (ts : List Sign) (f : Value → List Sign → Maybe B) → Each WritableSign ts
      → ((v : Value) (us : List Sign) → WritableValue v → Each WritableSign us → IfThere P (f v us))
      → IfThere P (next sign_value ts f)
  unfolding next
  next_value [] f h k = tt
  next_value (t ∷ ts) f h k = then_case WritableValue P (sign_value t) (λ a. f a ts) (value_writable t h.0) (λ a g. k a ts g h.1)

  next_any : {A : Type 0} (read : Sign → Maybe A) (ts : List Sign) (f : A → List Sign → Maybe B) → Each WritableSign ts
      → ((a : A) (us : List Sign) → Each WritableSign us → IfThere P (f a us)) → IfThere P (next read ts f)
  unfolding next
  next_any read [] f h k = tt
  next_any read (t ∷ ts) f h k = then_case (λ a. T true) P (read t) (λ a. f a ts) (any_where (read t)) (λ a g. k a ts h.1)

  expect_writable : (m : Bytes) (ts : List Sign) (f : List Sign → Maybe B) → Each WritableSign ts
      → ((us : List Sign) → Each WritableSign us → IfThere P (f us)) → IfThere P (expect m ts f)
  unfolding expect
  expect_writable m [] f h k = tt
  expect_writable m (t ∷ ts) f h k = pick_case (IfThere P) (is_mark m t) (f ts) nothing (λ u. k ts h.1) tt

  -- a vertex has a name
  pub vertex_writable : (ts : List Sign) (f : Bytes → Maybe B) → Each WritableSign ts → ((v : Bytes) → IsName v → IfThere P (f v)) → IfThere P (vertex_at ts f)
  unfolding vertex_at
  vertex_writable ts f h k = expect_writable _ ts _ h (λ ts h. next_name ts _ h (λ v ts n h. expect_writable _ ts _ h (λ ts h. k v n)))

abbrev PieceGot : Got Piece → Type 0
PieceGot g = WritablePiece g.got

start_writable : (ts : List Sign) → Each WritableSign ts → IfThere PieceGot (start_at ts)
unfolding start_at
start_writable ts h = vertex_writable PieceGot ts (λ v. just (record { got = start v; size = 4 })) h (λ v n. n)

link_writable : (make : Bytes → Bytes → Bytes → Piece) → ((e l v : Bytes) → IsName e → IsName l → IsName v → WritablePiece (make e l v))
    → (arrow : Bytes) (ts : List Sign) → Each WritableSign ts
    → IfThere PieceGot (link_at make arrow ts)
unfolding link_at
link_writable make g arrow ts h =
    expect_writable PieceGot _ ts _ h (λ ts h. next_name PieceGot ts _ h
    (λ e ts ne h. expect_writable PieceGot _ ts _ h (λ ts h. next_name PieceGot ts _ h (λ l ts nl h. expect_writable PieceGot _ ts _ h (λ ts h.
    expect_writable PieceGot arrow ts _ h (λ ts h. vertex_writable PieceGot ts (λ v. just (record { got = make e l v; size = 10 })) h
    (λ v n. g e l v ne nl n)))))))

condition_writable : (ts : List Sign) → Each WritableSign ts → IfThere PieceGot (condition_at ts)
unfolding condition_at
condition_writable ts h =
    next_name PieceGot ts _ h (λ x ts nx h. next_any PieceGot just ts _ h (λ t ts h.
    pick_case (IfThere PieceGot) (is_mark (bytes_of "<>") t) _ _
    (λ z. next_name PieceGot ts (λ u ts. just (record { got = asks (differ x u); size = 4 })) h (λ u ts nu h. (nx, nu)))
    (pick_case (IfThere PieceGot) (is_mark (bytes_of ".") t) _ nothing
    (λ z. next_name PieceGot ts (λ a ts. next sign_relation ts (λ r ts. next sign_value ts (λ v ts. just (record { got = asks (demand x a r v); size = 6 })))) h
    (λ a ts na h. next_any PieceGot sign_relation ts (λ r ts. next sign_value ts (λ v ts. just (record { got = asks (demand x a r v); size = 6 }))) h
    (λ r ts h. next_value PieceGot ts (λ v ts. just (record { got = asks (demand x a r v); size = 6 })) h (λ v ts nv h. (nx, na, nv))))) tt)))

return_writable : (ts : List Sign) → Each WritableSign ts → IfThere PieceGot (return_at ts)
unfolding return_at
return_writable ts h = next_name PieceGot ts (λ v ts. just (record { got = returns v; size = 2 })) h (λ v ts n h. n)

either_piece : (t : Bool) (x y : Maybe (Got Piece)) → IfThere PieceGot x → IfThere PieceGot y → IfThere PieceGot (pick t x y)
either_piece true x y h k = h
either_piece false x y h k = k

piece_writable : (p : Spot) (t : Sign) (ts : List Sign) → Each WritableSign ts → IfThere PieceGot (piece_at p t ts)
unfolding piece_at
piece_writable at_start t ts h = either_piece (is_word (bytes_of "Match") t) (start_at ts) nothing (start_writable ts h) tt
piece_writable in_chain t ts h =
    let E = pick (is_word (bytes_of "Return") t) (return_at ts) nothing in
    let D = pick (is_word (bytes_of "Match") t) (start_at ts) E in
    let C = pick (is_word (bytes_of "Where") t) (condition_at ts) D in
    let B = pick (is_mark (bytes_of "<-") t) (link_at comes (bytes_of "-") ts) C in
    either_piece (is_mark (bytes_of "-") t) (link_at goes (bytes_of "->") ts) B (link_writable goes (λ e l v a b c. (a, b, c)) (bytes_of "->") ts h)
    (either_piece (is_mark (bytes_of "<-") t) (link_at comes (bytes_of "-") ts) C (link_writable comes (λ e l v a b c. (a, b, c)) (bytes_of "-") ts h)
    (either_piece (is_word (bytes_of "Where") t) (condition_at ts) D (condition_writable ts h)
    (either_piece (is_word (bytes_of "Match") t) (start_at ts) E (start_writable ts h)
    (either_piece (is_word (bytes_of "Return") t) (return_at ts) nothing (return_writable ts h) tt))))
piece_writable in_where t ts h =
    let E = pick (is_word (bytes_of "Return") t) (return_at ts) nothing in
    let D = pick (is_word (bytes_of "Match") t) (start_at ts) E in
    either_piece (is_word (bytes_of "AND") t) (condition_at ts) D (condition_writable ts h)
    (either_piece (is_word (bytes_of "Match") t) (start_at ts) E (start_writable ts h)
    (either_piece (is_word (bytes_of "Return") t) (return_at ts) nothing (return_writable ts h) tt))
piece_writable in_return t ts h = either_piece (is_mark (bytes_of ",") t) (return_at ts) nothing (return_writable ts h) tt

end_writable : (p : Spot) → IfThere (Each WritablePiece) (ends_at p)
unfolding ends_at
end_writable at_start = tt
end_writable in_chain = tt
end_writable in_where = tt
end_writable in_return = tt

-- the pieces of such signs can be written
pub pieces_writable : (p : Spot) (k : ℕ) (ts : List Sign) → Each WritableSign ts → IfThere (Each WritablePiece) (pieces p k ts)
unfolding pieces
pieces_writable p k [] h = end_writable p
pieces_writable p (suc k) (t ∷ ts) h = pieces_writable p k ts h.1
pieces_writable p zero (t ∷ ts) h =
    then_case PieceGot (Each WritablePiece) (piece_at p t ts) _ (piece_writable p t ts h.1)
    (λ g n. then_case (Each WritablePiece) (Each WritablePiece) (pieces (spot_after g.got) (g.size - 1) ts) (λ ps. just (g.got ∷ ps))
    (pieces_writable (spot_after g.got) (g.size - 1) ts h.1) (λ ps m. (n, m)))
