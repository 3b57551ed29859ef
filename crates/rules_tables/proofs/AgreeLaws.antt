-- Words that agree on all that is counted hold the same rules; so a store to a word that is not counted changes nothing.
use Prim.Native.Nat.{ℕ, zero, suc, ◌+◌, ◌*◌, ◌<◌}
use mathlib.Core.Path.{◌≡◌, refl, sym, ap, ◌∙◌}
use mathlib.Core.List.{List}
use mathlib.Core.Bool.{Bool, ◌||◌}
use native.Mathlib.Omega.{arith}
use lib.ListN.{set, length-set}
use lib.Seq.{get_or-set_other}
use lib.Dec.{eqb}
use Rattle.bits.specs.Word.{bit}
use Rattle.model.specs.Bytes.{Bytes}
use Rattle.model.specs.Lists.{any}
use Rattle.model.specs.Names.{place}
use Rattle.book_tables.specs.Listed.{listed}
use Rattle.book_tables.specs.View.{word_at, name_of, names_at}
use Rattle.book_tables.specs.Agree.{At}
use Rattle.book_tables.proofs.ListedLaws.{listed_same, any_end}
use Rattle.book_tables.proofs.AgreeLaws.{name_kept, names_kept, names_fit_kept}
use Rattle.rules_tables.specs.declared.RulesCounts.{RulesCounts}
use Rattle.rules_tables.specs.Layout.{names, slot, actor_count_at, over_count_at, actors_from, over_from, policy_at}
use Rattle.rules_tables.specs.View.{actors_at, over_at, lower_set, category_of, policy_category, policy_text, policy_of, rules_at}
use Rattle.rules_tables.specs.Fits.{rank, below_some, CategoryFits, PolicyFits, Fits}
use Rattle.rules_tables.specs.Agree.{Free, Agree}

-- a store to a free place
pub set_agrees : (c : RulesCounts) (words : List ℕ) (p v : ℕ) → Free c p → Agree c words (set words p v)
set_agrees c words p v f = record {
  size = length-set words p v;
  named = λ k l. get_or-set_other words p _ v 0 (f.named k l);
  categories = λ x l. get_or-set_other words p _ v 0 (f.categories x l);
  policies = λ x l. get_or-set_other words p _ v 0 (f.policies x l);
}

-- words agree with themselves, and with what agrees with words that agree
pub agree_same : (c : RulesCounts) (words : List ℕ) → Agree c words words
agree_same c words = record { size = refl; named = λ k l. refl; categories = λ x l. refl; policies = λ x l. refl }

pub agree_trans : (c : RulesCounts) (a b d : List ℕ) → Agree c a b → Agree c b d → Agree c a d
agree_trans c a b d x y = record {
  size = y.size ∙ x.size;
  named = λ k l. y.named k l ∙ x.named k l;
  categories = λ i l. y.categories i l ∙ x.categories i l;
  policies = λ i l. y.policies i l ∙ x.policies i l;
}

-- tests that agree on the elements of a list
pub any_same : {A : Type 0} (p q : A → Bool) (f : ℕ → A) (n : ℕ) → ((i : ℕ) → i < n → p (f i) ≡ q (f i)) → any p (listed f n) ≡ any q (listed f n)
unfolding listed any
any_same p q f zero h = refl
any_same p q f (suc n) h = rw (any_end p (listed f n) (f n), any_end q (listed f n) (f n), any_same p q f n (λ i l. h i (omega arith)), h n (omega arith))

module _ (text : Bytes) (words words' : List ℕ) (c : RulesCounts) (a : Agree c words words') where
  -- the words of a category
  module _ (k : ℕ) (l : k < c.categories) where
    slot_kept : (j i : ℕ) → j + i < 27 → At words words' (slot k + j + i)
    slot_kept j i h = let e : 16 + 27 * k + j + i ≡ 16 + (27 * k + j + i) = omega arith in rw e (a.categories (27 * k + j + i) (omega arith))

    one_kept : (j : ℕ) → j < 27 → At words words' (slot k + j)
    one_kept j h = let e : 16 + 27 * k + j ≡ 16 + (27 * k + j) = omega arith in rw e (a.categories (27 * k + j) (omega arith))

    actor_count_kept : At words words' (actor_count_at k)
    actor_count_kept = a.categories (27 * k) (omega arith)

    pub lower_kept : lower_set words' k ≡ lower_set words k
    lower_kept = one_kept 2 (omega arith)

    pub rank_kept : (w : Bytes) → rank text words' k w ≡ rank text words k w
    rank_kept w = ap (place w) (names_kept text words words' names k (λ i h. a.named i (omega arith)))

    module _ (f : CategoryFits text words k) where
      actors_same : (i : ℕ) → i < word_at words (actor_count_at k) → At words words' (actors_from k + i)
      actors_same i h = slot_kept 3 i (omega (arith, f.few_actors))

      over_same : (i : ℕ) → i < word_at words (over_count_at k) → At words words' (over_from k + i)
      over_same i h = slot_kept 11 i (omega (arith, f.few_over))

      pub actors_kept : actors_at text words' k ≡ actors_at text words k
      unfolding actors_at
      actors_kept = rw actor_count_kept (names_kept text words words' (actors_from k) (word_at words (actor_count_at k)) actors_same)

      pub over_kept : over_at text words' k ≡ over_at text words k
      unfolding over_at
      over_kept = rw (one_kept 1 (omega arith)) (names_kept text words words' (over_from k) (word_at words (over_count_at k)) over_same)

  module _ (f : (k : ℕ) → k < c.categories → CategoryFits text words k) where
    below_kept : (k : ℕ) → k < c.categories → (m : ℕ) → below_some text words' k m (over_at text words' k) ≡ below_some text words k m (over_at text words k)
    unfolding over_at names_at
    below_kept k l m =
        ap (below_some text words' k m) (over_kept k l (f k l))
        ∙ any_same (λ o. bit (lower_set words' (rank text words' k o)) m) (λ o. bit (lower_set words (rank text words k o)) m)
        (name_of text words (over_from k)) (word_at words (over_count_at k))
        (λ i h. rw (rank_kept k l (name_of text words (over_from k) i))
        (ap (λ (w : ℕ). bit w m) (lower_kept (rank text words k (name_of text words (over_from k) i)) (omega (arith, (f k l).earlier i h)))))

    pub category_kept : (k : ℕ) → k < c.categories → category_of text words' k ≡ category_of text words k
    unfolding category_of
    category_kept k l = rw (name_kept text words words' names c.categories a.named k l, actors_kept k l (f k l), over_kept k l (f k l))

    pub category_fits_kept : (k : ℕ) → k < c.categories → CategoryFits text words' k
    category_fits_kept k l =
        let g = f k l in
        let na = actor_count_kept k l in
        let no = one_kept k l 1 (omega arith) in
        record {
          few_actors = rw na g.few_actors;
          few_over = rw no g.few_over;
          actors = rw na (names_fit_kept text words words' (actors_from k) (word_at words (actor_count_at k)) (actors_same k l g) g.actors);
          over = rw no (names_fit_kept text words words' (over_from k) (word_at words (over_count_at k)) (over_same k l g) g.over);
          earlier = λ i h. let h' = rw no at h in
              rw (
                name_kept text words words' (over_from k) (word_at words (over_count_at k)) (over_same k l g) i h',
                rank_kept k l
                    (name_of text words (over_from k) i),
              ) (g.earlier i h');
          lower = λ m. ap (λ (w : ℕ). bit w m) (lower_kept k l) ∙ g.lower m ∙ ap (λ (b : Bool). eqb m k || b) (sym (below_kept k l m));
        }

  -- the words of a policy
  module _ (i : ℕ) (l : i < c.policies) where
    number_kept : policy_category words' i ≡ policy_category words i
    number_kept = a.policies (3 * i) (omega arith)

    start_kept : At words words' (policy_at i + 1)
    start_kept = let e : 448 + 3 * i + 1 ≡ 448 + (3 * i + 1) = omega arith in rw e (a.policies (3 * i + 1) (omega arith))

    size_kept : At words words' (policy_at i + 2)
    size_kept = let e : 448 + 3 * i + 2 ≡ 448 + (3 * i + 2) = omega arith in rw e (a.policies (3 * i + 2) (omega arith))

    text_kept : policy_text text words' i ≡ policy_text text words i
    unfolding policy_text
    text_kept = rw (start_kept, size_kept)

    policy_kept : policy_category words i < c.categories → policy_of text words' i ≡ policy_of text words i
    unfolding policy_of
    policy_kept h = rw (number_kept, text_kept, name_kept text words words' names c.categories a.named (policy_category words i) h)

    policy_fits_kept : PolicyFits text words c.categories i → PolicyFits text words' c.categories i
    policy_fits_kept f = record {
      counted = rw number_kept f.counted;
      inside = rw (start_kept, size_kept) f.inside;
      is_query = rw text_kept f.is_query;
    }

  -- the whole rules
  module _ (f : Fits text words c) where
    pub rules_kept : rules_at text words' c ≡ rules_at text words c
    unfolding rules_at
    rules_kept =
        rw (
          listed_same (category_of text words') (category_of text words) c.categories (category_kept f.each),
          listed_same (policy_of text words') (policy_of text words) c.policies (λ i l. policy_kept i l (f.policies i l).counted),
        )

    pub fits_kept : Fits text words' c
    fits_kept = record {
      room = rw a.size f.room;
      few = f.few;
      few_policies = f.few_policies;
      named = names_fit_kept text words words' names c.categories a.named f.named;
      each = category_fits_kept f.each;
      policies = λ i l. policy_fits_kept i l (f.policies i l);
      one_each = λ i j l h e. f.one_each i j l h (sym (number_kept i l) ∙ e ∙ number_kept j h);
    }
