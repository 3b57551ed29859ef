-- Laws of what is expected next: by the first sign that is not broken.
use Prim.Native.Nat.{ℕ, ◌<◌}
use mathlib.Core.Path.{◌≡◌, refl, sym, ap, ◌∙◌, subst}
use mathlib.Core.List.{List, [], ◌∷◌, ◌++◌}
use mathlib.Core.Bool.{Bool, true, false, ◌&&◌}
use native.Mathlib.Omega.{arith}
use lib.Dec.{T, eqb}
use borrow.Author.Tests.{eq-eqb, ne_eqb, eqb-true}
use Rattle.std.specs.Prelude.{Option, Some, None}
use Rattle.model.specs.Bytes.{Bytes, bytes_of, same}
use Rattle.model.specs.Choice.{pick, Maybe, nothing, just, and_then}
use Rattle.model.specs.Lists.{any}
use Rattle.model.specs.Names.{mem}
use Rattle.model.specs.Forms.{never_names, name_of, truth_of}
use Rattle.model.specs.Values.{Value}
use Rattle.model.specs.Signs.{Sign, word, whole, text, mark, broken, is_word, is_mark, chain_behind, wordy, sign_name, sign_value, next, expect}
use Rattle.model.specs.QueryText.{Relation}
use Rattle.model.specs.Grammar.{sign_relation}
use Rattle.model.specs.Answers.{name_at, relation_of, value_of}
use Rattle.model.specs.Places.{Bracket, none, bracket_of, variable_at}
use Rattle.model.specs.declared.Part.{Part}
use Rattle.model.specs.declared.Relation.{Relation as RelationData}
use Rattle.model.specs.declared.Relation.TheVariants.{Equal, Differs, Less, AtMost, Greater, AtLeast}
use Rattle.model.specs.declared.Value.TheVariants as given
use Rattle.model.proofs.Decides.{same→eq}
use Rattle.query_signs.specs.declared.Sign.{Sign as SignData}
use Rattle.query_signs.specs.declared.Sign.TheVariants as sign
use Rattle.query_signs.specs.Marks.{mark_bytes}
use Rattle.query_signs.specs.Reads.{sign_of, signs_from, first, first_of, NextSign, Behind, ReadInside, standings_from, standing_of, SignStands}
use Rattle.query_signs.specs.Expected.{Then, code_of, behind_mark, MarkNext, behind_name, NameNext, relation_or, behind_relation, RelationNext}
use Rattle.query_signs.specs.Expected.{truth_or, behind_value, value_standing, ValueNext}
use Rattle.query_signs.proofs.MarkLaws.{same_marks}

-- a broken sign is never what is expected
pub expect_first : {B : Type 0} (m : Bytes) (ts : List Sign) (f : List Sign → Maybe B)
    → expect m ts f ≡ and_then (first ts) (λ x. pick (is_mark m x.sign) (f x.rest) nothing)
unfolding expect first and_then is_mark
expect_first m [] f = refl
expect_first m (word w ∷ ts) f = refl
expect_first m (whole n ∷ ts) f = refl
expect_first m (text t ∷ ts) f = refl
expect_first m (mark b ∷ ts) f = refl
expect_first m (broken ∷ ts) f = refl

pub next_first : {A B : Type 0} (r : Sign → Maybe A) (ts : List Sign) (f : A → List Sign → Maybe B) → r broken ≡ nothing
    → next r ts f ≡ and_then (first ts) (λ x. and_then (r x.sign) (λ a. f a x.rest))
unfolding next first and_then
next_first r [] f h = refl
next_first r (word w ∷ ts) f h = refl
next_first r (whole n ∷ ts) f h = refl
next_first r (text t ∷ ts) f h = refl
next_first r (mark b ∷ ts) f h = refl
next_first r (broken ∷ ts) f h = rw h

-- what is expected is found, and then the rest is taken
pub expect_then : {B : Type 0} (m : Bytes) (ts : List Sign) (f : List Sign → Maybe B) → expect m ts f ≡ and_then (expect m ts just) f
unfolding expect and_then
expect_then m [] f = refl
expect_then m (t ∷ ts) f = go (is_mark m t)
  where
    go : (x : Bool) → pick x (f ts) nothing ≡ and_then (pick x (just ts) nothing) f
    go true = refl
    go false = refl

pub next_then : {A B : Type 0} (r : Sign → Maybe A) (ts : List Sign) (f : A → List Sign → Maybe B)
    → next r ts f ≡ and_then (next r ts (λ a ts. just (record { got = a; rest = ts }))) (λ (x : Then A). f x.got x.rest)
unfolding next and_then
next_then r [] f = refl
next_then {A} r (t ∷ ts) f = go (r t)
  where
    go : (m : Maybe A) → and_then m (λ a. f a ts) ≡ and_then (and_then m (λ a. just (record { got = a; rest = ts }))) (λ (x : Then A). f x.got x.rest)
    go nothing = refl
    go (just a) = refl

-- a mark does not end a chain
chain_mark : (chain : Bool) (m : Bytes) → chain_behind chain (mark m) ≡ chain
unfolding chain_behind is_word
chain_mark true m = refl
chain_mark false m = refl

pick_none : (a r : Bool) → pick a true r ≡ false → (a ≡ false) × (r ≡ false)
pick_none true r h = (h, absurd (not_both h))
  where
    not_both : true ≡ false → ⊥
    not_both e = let z : ◌≡◌ {A = ℕ} 0 1 = cc in omega arith
pick_none false r h = (refl, h)

-- nor does a name
chain_name : (chain : Bool) (w : Bytes) → mem w never_names ≡ false → chain_behind chain (word w) ≡ chain
unfolding mem any never_names chain_behind is_word
chain_name chain w h =
    let a = pick_none (same w (bytes_of "Match")) _ h in
    let b = pick_none (same w (bytes_of "Where")) _ a.1 in
    let c = pick_none (same w (bytes_of "AND")) _ b.1 in
    let d = pick_none (same w (bytes_of "Return")) _ c.1 in
    rw (a.0, b.0, d.0) (twice_true chain)
  where
    twice_true : (x : Bool) → (x && true && true) ≡ x
    twice_true true = refl
    twice_true false = refl

-- the marks of the code
pub code_mark : (s : Bytes) (t : SignData) (c : ℕ) → 0 < c → is_mark (mark_bytes c) (sign_of s t) ≡ eqb (code_of t) c
unfolding is_mark sign_of code_of
code_mark s (sign.Word p) c h = sym (ne_eqb 0 c (λ z. omega arith))
code_mark s (sign.Whole n) c h = sym (ne_eqb 0 c (λ z. omega arith))
code_mark s (sign.Text p) c h = sym (ne_eqb 0 c (λ z. omega arith))
code_mark s (sign.Mark m) c h = same_marks m c

pub code_is : (s : Bytes) (t : SignData) (c : ℕ) → 0 < c → code_of t ≡ c → sign_of s t ≡ mark (mark_bytes c)
unfolding sign_of code_of
code_is s (sign.Word p) c h e = absurd (omega arith)
code_is s (sign.Whole n) c h e = absurd (omega arith)
code_is s (sign.Text p) c h e = absurd (omega arith)
code_is s (sign.Mark m) c h e = ap (λ n. mark (mark_bytes n)) e

-- a sign that is no mark has no code
pub no_code : (t : SignData) → ((m : ℕ) → t ≡ sign.Mark m → ⊥) → code_of t ≡ 0
unfolding code_of
no_code (sign.Word p) h = refl
no_code (sign.Whole n) h = refl
no_code (sign.Text p) h = refl
no_code (sign.Mark m) h = absurd (h m refl)

-- a mark is no variable and no text value
code_quiet : (o : Bracket) (t : SignData) (c : ℕ) → 0 < c → code_of t ≡ c → standing_of o t ≡ []
unfolding standing_of code_of
code_quiet o (sign.Word p) c h e = absurd (omega arith)
code_quiet o (sign.Whole n) c h e = refl
code_quiet o (sign.Text p) c h e = absurd (omega arith)
code_quiet o (sign.Mark m) c h e = refl

-- a mark that is expected
module _ (chain close : Bool) (s : Bytes) (from c : ℕ) where
  pub mark_end : first (signs_from chain close s from) ≡ nothing → MarkNext chain close s from c None
  unfolding behind_mark and_then
  mark_end h = record { reads = expect_first (mark_bytes c) (signs_from chain close s from) just ∙ rw h; moves = tt; stands = λ o. tt }

  pub mark_met : (q : ℕ) → NextSign chain close s from (Some (sign.Mark c, q)) → MarkNext chain close s from c (Some q)
  unfolding first_of behind_mark and_then sign_of standing_of is_mark wordy
  mark_met q h = record {
    reads = expect_first (mark_bytes c) (signs_from chain close s from) just ∙ rw (h.reads, same_marks c c, eq-eqb c c refl, chain_mark chain (mark_bytes c));
    moves = h.moves;
    stands = λ o. h.stands o ∙ rw (chain_mark chain (mark_bytes c));
  }

-- a name that is expected
module _ (chain close : Bool) (s : Bytes) (from : ℕ) where
  abbrev named : Bytes → List Sign → Maybe (Then Bytes)
  named v ts = just (record { got = v; rest = ts })

  pub name_end : first (signs_from chain close s from) ≡ nothing → NameNext chain close s from None
  unfolding behind_name and_then sign_name
  name_end h = record { reads = next_first sign_name (signs_from chain close s from) named refl ∙ rw h; moves = tt; inside = tt; stands = λ o. tt }

  module _ (p : Part) (q : ℕ) (h : NextSign chain close s from (Some (sign.Word p, q))) where
    pub name_met_law : mem (name_at s p) never_names ≡ false → NameNext chain close s from (Some (p, q))
    unfolding sign_name sign_of name_of first_of behind_name and_then standing_of wordy bracket_of is_mark
    name_met_law k = record {
      reads = next_first sign_name (signs_from chain close s from) named refl ∙ rw (h.reads, k, chain_name chain (name_at s p) k);
      moves = h.moves;
      inside = h.inside;
      stands = λ o. h.stands o ∙ rw (chain_name chain (name_at s p) k);
    }

    pub name_never : mem (name_at s p) never_names ≡ true → NameNext chain close s from None
    unfolding sign_name sign_of name_of first_of behind_name and_then
    name_never k = record {
      reads = next_first sign_name (signs_from chain close s from) named refl ∙ rw (h.reads, k);
      moves = tt;
      inside = tt;
      stands = λ o. tt;
    }

-- a relation that is expected
abbrev related : Relation → List Sign → Maybe (Then Relation)
related x ts = just (record { got = x; rest = ts })

-- the relation of a code
relation_code : (s : Bytes) (t : SignData) → sign_relation (sign_of s t) ≡
    pick (eqb (code_of t) 61) (just Rattle.model.specs.QueryText.eq)
    (pick (eqb (code_of t) 15422) (just Rattle.model.specs.QueryText.ne)
    (pick (eqb (code_of t) 60) (just Rattle.model.specs.QueryText.lt)
    (pick (eqb (code_of t) 15421) (just Rattle.model.specs.QueryText.le)
    (pick (eqb (code_of t) 62) (just Rattle.model.specs.QueryText.gt)
    (pick (eqb (code_of t) 15933) (just Rattle.model.specs.QueryText.ge) nothing)))))
unfolding sign_relation mark_bytes
relation_code s t = rw (
  code_mark s t 61 (omega arith),
  code_mark s t 15422 (omega arith),
  code_mark s t 60 (omega arith),
  code_mark s t 15421 (omega arith),
  code_mark s t 62 (omega arith),
  code_mark s t 15933 (omega arith),
)

module _ (close : Bool) (s : Bytes) (from : ℕ) where
  pub relation_end : (r : Option (SignData × ℕ)) → NextSign false close s from r → r ≡ None → RelationNext close s from None
  unfolding first_of behind_relation and_then sign_relation is_mark
  relation_end r h e = record { reads = next_first sign_relation (signs_from false close s from) related refl ∙ rw (h.reads, e); moves = tt; stands = λ o. tt }

  module _ (r : Option (SignData × ℕ)) (h : NextSign false close s from r) (t : SignData) (q : ℕ) (e : r ≡ Some (t, q)) where
    abbrev found : Maybe Relation → Maybe (Then Relation)
    found m = and_then m (λ x. related x (signs_from (chain_behind false (sign_of s t)) (wordy (sign_of s t)) s q))

    relation_reads : next sign_relation (signs_from false close s from) related ≡ found (sign_relation (sign_of s t))
    unfolding first_of and_then sign_relation is_mark
    relation_reads = next_first sign_relation (signs_from false close s from) related refl ∙ rw (h.reads, e)

    relation_stands : (k : ℕ) → 0 < k → code_of t ≡ k → bracket_of (mark (mark_bytes k)) ≡ none → (o : Bracket)
        → standings_from o false close s from ≡ standings_from none false false s q
    unfolding wordy
    relation_stands k p c n o = subst (SignStands o false close s from) e (h.stands o)
        ∙ rw (code_quiet o t k p c, code_is s t k p c, chain_mark false (mark_bytes k), n)

    relation_is : (k : ℕ) (d : RelationData) → 0 < k → bracket_of (mark (mark_bytes k)) ≡ none → code_of t ≡ k
        → sign_relation (sign_of s t) ≡ just (relation_of d) → RelationNext close s from (Some (d, q))
    unfolding behind_relation and_then wordy
    relation_is k d p n c m = record {
      reads = relation_reads ∙ rw (m, code_is s t k p c, chain_mark false (mark_bytes k));
      moves = subst (Behind from) e h.moves;
      stands = relation_stands k p c n;
    }

    relation_or_law : (k : ℕ) (d : RelationData) (R : Option (RelationData × ℕ)) (M : Maybe Relation) → 0 < k → bracket_of (mark (mark_bytes k)) ≡ none
        → sign_relation (sign_of s t) ≡ pick (eqb (code_of t) k) (just (relation_of d)) M
        → (sign_relation (sign_of s t) ≡ M → RelationNext close s from R) → RelationNext close s from (pick (eqb (code_of t) k) (Some (d, q)) R)
    relation_or_law k d R M p n m f = go (eqb (code_of t) k) refl m
      where
        go : (x : Bool) → eqb (code_of t) k ≡ x → sign_relation (sign_of s t) ≡ pick x (just (relation_of d)) M
            → RelationNext close s from (pick x (Some (d, q)) R)
        go true c m = relation_is k d p n (eqb-true (code_of t) k c) m
        go false c m = f m

    pub relation_met : RelationNext close s from (relation_or (code_of t) q)
    unfolding relation_or relation_of behind_relation and_then bracket_of is_mark same mark_bytes
    relation_met =
        relation_or_law 61 Equal _ _ (omega arith) refl (relation_code s t) (λ m.
        relation_or_law 15422 Differs _ _ (omega arith) refl m (λ m.
        relation_or_law 60 Less _ _ (omega arith) refl m (λ m.
        relation_or_law 15421 AtMost _ _ (omega arith) refl m (λ m.
        relation_or_law 62 Greater _ _ (omega arith) refl m (λ m.
        relation_or_law 15933 AtLeast _ _ (omega arith) refl m (λ m. record { reads = relation_reads ∙ rw m; moves = tt; stands = λ o. tt }))))))

-- a value that is expected
abbrev valued : Value → List Sign → Maybe (Then Value)
valued v ts = just (record { got = v; rest = ts })

module _ (close : Bool) (s : Bytes) (from : ℕ) where
  pub value_end : (r : Option (SignData × ℕ)) → NextSign false close s from r → r ≡ None → ValueNext close s from None
  unfolding first_of behind_value and_then sign_value
  value_end r h e = record { reads = next_first sign_value (signs_from false close s from) valued refl ∙ rw (h.reads, e); moves = tt; inside = tt; stands = tt }

  module _ (r : Option (SignData × ℕ)) (h : NextSign false close s from r) (q : ℕ) where
    value_stands : (t : SignData) → r ≡ Some (t, q) → chain_behind false (sign_of s t) ≡ false → bracket_of (sign_of s t) ≡ none
        → standings_from none false close s from ≡ standing_of none t ++ standings_from none false (wordy (sign_of s t)) s q
    value_stands t e c o = subst (SignStands none false close s from) e (h.stands none) ∙ rw (c, o)

    pub value_mark : (c : ℕ) → r ≡ Some (sign.Mark c, q) → ValueNext close s from None
    unfolding first_of behind_value and_then sign_value sign_of
    value_mark c e = record { reads = next_first sign_value (signs_from false close s from) valued refl ∙ rw (h.reads, e); moves = tt; inside = tt; stands = tt }

    pub value_whole : (n : ℕ) → r ≡ Some (sign.Whole n, q) → ValueNext close s from (Some (given.Number n, q, true))
    unfolding first_of behind_value and_then sign_value sign_of value_of chain_behind is_word is_mark wordy bracket_of standing_of value_standing
    value_whole n e = record {
      reads = next_first sign_value (signs_from false close s from) valued refl
          ∙ rw (h.reads, e);
      moves = subst (Behind from) e h.moves;
      inside = tt;
      stands = value_stands (sign.Whole n) e refl refl;
    }

    pub value_text_law : (p : Part) → r ≡ Some (sign.Text p, q) → ValueNext close s from (Some (given.Text p.start p.length, q, false))
    unfolding first_of behind_value and_then sign_value sign_of value_of name_at chain_behind is_word is_mark wordy bracket_of standing_of value_standing
    value_text_law p e = record {
      reads = next_first sign_value (signs_from false close s from) valued refl
          ∙ rw (h.reads, e);
      moves = subst (Behind from) e h.moves;
      inside = subst (ReadInside s) e h.inside;
      stands = value_stands (sign.Text p) e refl refl;
    }

    truth_chain : (w b : Bytes) → same w b ≡ true → chain_behind false (word b) ≡ false → chain_behind false (word w) ≡ false
    truth_chain w b k f = rw (same→eq w b (subst T (sym k) tt)) f

    pub value_word : (p : Part) → r ≡ Some (sign.Word p, q) → ValueNext close s from (truth_or s p q)
    unfolding truth_or first_of behind_value and_then sign_value sign_of truth_of value_of wordy bracket_of is_mark standing_of variable_at value_standing
    value_word p e = go (same (name_at s p) (bytes_of "true")) refl (same (name_at s p) (bytes_of "false")) refl
      where
        go : (x : Bool) → same (name_at s p) (bytes_of "true") ≡ x → (y : Bool) → same (name_at s p) (bytes_of "false") ≡ y
            → ValueNext close s from (pick x (Some (given.Truth true, q, true)) (pick y (Some (given.Truth false, q, true)) None))
        go true k y l = record {
          reads = next_first sign_value (signs_from false close s from) valued refl
              ∙ rw (h.reads, e, k, truth_chain (name_at s p) (bytes_of "true") k (unfold chain_behind is_word same in refl));
          moves = subst (Behind from) e h.moves;
          inside = tt;
          stands = value_stands (sign.Word p) e (truth_chain (name_at s p) (bytes_of "true") k (unfold chain_behind is_word same in refl)) refl;
        }
        go false k true l = record {
          reads = next_first sign_value (signs_from false close s from) valued refl
              ∙ rw (h.reads, e, k, l, truth_chain (name_at s p) (bytes_of "false") l (unfold chain_behind is_word same in refl));
          moves = subst (Behind from) e h.moves;
          inside = tt;
          stands = value_stands (sign.Word p) e (truth_chain (name_at s p) (bytes_of "false") l (unfold chain_behind is_word same in refl)) refl;
        }
        go false k false l = record {
          reads = next_first sign_value (signs_from false close s from) valued refl
              ∙ rw (h.reads, e, k, l);
          moves = tt;
          inside = tt;
          stands = tt;
        }
