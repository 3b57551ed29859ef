-- `rules_tables::lower::lower_set` meets its contract. Assumes nothing.
use Prim.Native.Nat.{ℕ, ◌+◌, ◌-◌}
use mathlib.Core.Bool.{◌||◌}
use mathlib.Core.List.{List}
use mathlib.Core.Path.{◌≡◌, ap, ◌∙◌}
use native.Mathlib.Omega.{arith}
use lib.Dec.{eqb}
use Rattle.bits.specs.Word.{bit}
use Rattle.model.specs.Names.{place}
use Rattle.model.specs.Bytes.{Bytes}
use Rattle.rules_tables.proofs.Unions.{union_none, union_more}
use Rattle.rules_tables.specs.Fits.{rank, below_some}
use Rattle.rules_tables.specs.Layout.{names, over_from}
use Rattle.book_tables.specs.View.{word_at, name_in, name_of, names_at}
use Rattle.rules_tables.proofs.lower.lower_set.Goals as goal

-- the number of a name above is its rank
ranked : (text : Bytes) (words : List ℕ) (k i found : ℕ) (name : Bytes) → found ≡ place name (names_at text words names k)
    → name ≡ name_in text (word_at words (over_from k + i)) → found ≡ rank text words k (name_of text words (over_from k) i)
unfolding name_of
ranked text words k i found name e n = e ∙ ap (λ (w : Bytes). place w (names_at text words names k)) n

pub with-set-requires : goal.with-set-requires
with-set-requires c = omega (arith, c.requires.few)

pub loop-i-init : goal.loop-i-init
loop-i-init c =
    (omega arith, λ m. ap (λ (w : ℕ). bit w m) c.with-set.ensures ∙ union_none c.args.text.now c.args.words.now c.args.k m)

pub overflow_mul-k : goal.overflow_mul-k
overflow_mul-k c = omega (arith, c.requires.few)

pub overflow_add-k : goal.overflow_add-k
overflow_add-k c = omega (arith, c.requires.few)

pub overflow_add-k-in-loop-i : goal.overflow_add-k-in-loop-i
overflow_add-k-in-loop-i c = omega (arith, c.requires.few)

pub overflow_add-k-in-loop-i-2 : goal.overflow_add-k-in-loop-i-2
overflow_add-k-in-loop-i-2 c = omega (arith, c.requires.few, c.requires.few_over)

pub name_at-name-requires : goal.name_at-name-requires
name_at-name-requires c =
    (omega (arith, c.requires.few, c.requires.few_over, c.requires.room), c.requires.listed.inside c.loop-i.i c.loop-i-test.true)

pub find_name-j-requires : goal.find_name-j-requires
find_name-j-requires c =
    (c.requires.named, omega (arith, c.requires.few, c.requires.room))

pub overflow_mul-set : goal.overflow_mul-set
overflow_mul-set c = omega (arith, c.requires.few, ranked _ _ _ c.loop-i.i _ _ c.find_name-j.ensures c.name_at-name.ensures, c.requires.earlier c.loop-i.i c.loop-i-test.true)

pub overflow_add-set : goal.overflow_add-set
overflow_add-set c = omega (arith, c.requires.few, ranked _ _ _ c.loop-i.i _ _ c.find_name-j.ensures c.name_at-name.ensures, c.requires.earlier c.loop-i.i c.loop-i-test.true)

pub overflow_add-set-in-loop-i : goal.overflow_add-set-in-loop-i
overflow_add-set-in-loop-i c = omega (arith, c.requires.few, ranked _ _ _ c.loop-i.i _ _ c.find_name-j.ensures c.name_at-name.ensures, c.requires.earlier c.loop-i.i c.loop-i-test.true)

pub offset_bounds-words-j : goal.offset_bounds-words-j
offset_bounds-words-j c = omega (arith, c.requires.few, ranked _ _ _ c.loop-i.i _ _ c.find_name-j.ensures c.name_at-name.ensures, c.requires.earlier c.loop-i.i c.loop-i-test.true)

pub bounds-words-j : goal.bounds-words-j
bounds-words-j c = omega (arith, c.requires.few, ranked _ _ _ c.loop-i.i _ _ c.find_name-j.ensures c.name_at-name.ensures, c.requires.earlier c.loop-i.i c.loop-i-test.true, c.requires.room)

pub loop-i-preserved : goal.loop-i-preserved
loop-i-preserved c = (
  omega arith,
  union_more c.args.text.now c.args.words.now c.args.k c.loop-i.set c.loop-i.i
      c.find_name-j.result (ranked _ _ _ c.loop-i.i _ _ c.find_name-j.ensures c.name_at-name.ensures) c.loop-i.invariant.1,
)

pub returns : goal.returns
returns c =
    let e : c.loop-i.i ≡ c.args.over = omega arith in
    λ m. c.loop-i.invariant.1 m ∙ ap (λ (n : ℕ). eqb m c.args.k
    || below_some c.args.text.now c.args.words.now c.args.k m
    (names_at c.args.text.now c.args.words.now (over_from c.args.k) n)) e
