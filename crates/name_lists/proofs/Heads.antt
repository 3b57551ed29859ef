-- The steps of the readers of names: the head of a list, the end of its names, one name among the others.
use Prim.Native.Nat.{ℕ}
use mathlib.Core.Path.{◌≡◌, refl, sym, ap, ◌∙◌}
use mathlib.Core.List.{List, [], ◌∷◌}
use mathlib.Core.Bool.{Bool, true, false}
use Rattle.std.specs.Prelude.{Option, Some, None}
use Rattle.model.specs.Bytes.{Bytes, same}
use Rattle.model.specs.Choice.{pick}
use Rattle.model.specs.Lists.{any}
use Rattle.model.specs.Names.{mem, twice}
use Rattle.model.specs.Answers.{name_at}
use Rattle.model.specs.declared.Part.{Part}
use Rattle.item_forms.specs.Pieces.{behind, item_place, after_end, word_next, open_next}
pub use Rattle.item_forms.proofs.PlacedLaws.{placed_at}
use Rattle.name_lists.specs.Names.{head_piece, headed_at}

-- the head of the list that follows
module _ (head s : Bytes) (i : ℕ) where
  pub headed_none : None ≡ item_place (open_next s i) → None ≡ headed_at head s i
  unfolding headed_at after_end
  headed_none e = ap (λ (o : Option ℕ). after_end o (λ p. head_piece head s (word_next 2 true s p)) None) e

  module _ (p : ℕ) (e : Some p ≡ item_place (open_next s i)) where
    headed_piece : (r : Option Part) → r ≡ word_next 2 true s p → head_piece head s r ≡ headed_at head s i
    unfolding headed_at after_end
    headed_piece r h = ap (head_piece head s) h ∙ ap (λ (o : Option ℕ). after_end o (λ p. head_piece head s (word_next 2 true s p)) None) e

    pub headed_no_word : None ≡ word_next 2 true s p → None ≡ headed_at head s i
    unfolding head_piece
    headed_no_word h = headed_piece None h

    pub headed_is : {w : Part} → Some w ≡ word_next 2 true s p → same (name_at s w) head ≡ true → Some (behind w) ≡ headed_at head s i
    unfolding head_piece
    headed_is {w} h t = sym (ap (λ (x : Bool). pick x (Some (behind w)) None) t) ∙ headed_piece (Some w) h

    pub headed_other : {w : Part} → Some w ≡ word_next 2 true s p → same (name_at s w) head ≡ false → None ≡ headed_at head s i
    unfolding head_piece
    headed_other {w} h t = sym (ap (λ (x : Bool). pick x (Some (behind w)) None) t) ∙ headed_piece (Some w) h

-- a name in front of others
module _ (w n : Bytes) (ns : List Bytes) where
  pub mem_found : same w n ≡ true → mem w (n ∷ ns) ≡ true
  unfolding mem any
  mem_found e = rw e

  pub mem_other : same w n ≡ false → mem w (n ∷ ns) ≡ mem w ns
  unfolding mem any
  mem_other e = rw e

module _ (n : Bytes) (ns : List Bytes) where
  pub twice_found : mem n ns ≡ true → twice (n ∷ ns) ≡ true
  unfolding twice
  twice_found e = rw e

  pub twice_other : mem n ns ≡ false → twice (n ∷ ns) ≡ twice ns
  unfolding twice
  twice_other e = rw e

pub mem_none : (w : Bytes) → mem w [] ≡ false
unfolding mem any
mem_none w = refl

pub twice_none : twice [] ≡ false
unfolding twice
twice_none = refl
