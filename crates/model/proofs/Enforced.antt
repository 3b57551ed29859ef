-- The categories below one are exactly those it reaches, and the enforced policies exactly the policies of those.
use Prim.Native.Nat.{ℕ, zero, suc}
use mathlib.Core.Path.{◌≡◌, refl, sym, ap, subst, ◌∙◌}
use mathlib.Core.Logic.{⊎_elim, ◌↔◌}
use mathlib.Core.List.Memᴰ
use mathlib.Core.List.Memᴰ.{append_cases}
use mathlib.Core.List.Memᴰ.{eq_of_singleton}
use mathlib.Core.List.{List, [], ◌∷◌, ◌++◌, map}
use mathlib.Core.Bool.{Bool, true, false, not, ◌&&◌, ◌||◌}
use lib.ListN.{length, length-map}
use lib.Dec.{T}
use Rattle.model.specs.Bytes.{Bytes, same}
use Rattle.model.specs.Choice.{pick, nothing, and_then}
use Rattle.model.specs.Lists.{is_nil, any, all, keep}
use Rattle.model.specs.Names.{mem}
pub use Rattle.model.specs.Rules.{Reaches, itself, over}
use Rattle.model.specs.Rules.{Category, Policy, Rules, category_names, step_down, steps_down, down_from, enforced}
use Rattle.model.specs.Refusal.{accepted, refusal, on_accept}
use Rattle.model.specs.Lines.{lines_of, read_lines}
use Rattle.model.specs.Forms.{form_of}
use Rattle.model.specs.Book.{Book}
use Rattle.model.specs.ReadRules.{RulesLine, category, policy, rules_line, has_policy, rules_fault, add_rule, rules_step, covered, read_rules}
use Rattle.model.specs.Request.{Request, read_request}
use Rattle.model.proofs.AcceptedRequest.{category_declared}
use Rattle.model.proofs.Decides.{and_iff, each_all, same→eq, same_refl, not_e, or_l, or_r, or_cases}
use Rattle.model.proofs.Members.{◌∈◌, each_e, map_i, map_e, any_e, any_i, keep_e, keep_i, joined_e, joined_i, mem_e, mem_i}
use Rattle.model.proofs.Places.{map_keep}
use Rattle.model.proofs.Faults.{step_known}
use Rattle.model.proofs.Closures.{Within, step, steps, holds_after, steps_keep, closed}
use Rattle.model.proofs.Outcomes.{never, bytes_e, accept_e, lowest_e, lines_inv}

module _ (r : Rules) where
  -- one step down from cs leads to the name e
  abbrev leads : List Bytes → Bytes → Bool
  leads cs e = mem e cs || any (λ (d : Category). mem d.name cs && mem e d.over) r.categories

  steps_down_law : (k : ℕ) (cs : List Bytes) → steps_down k r cs ≡ steps (category_names r) leads k cs
  unfolding steps_down step_down category_names
  steps_down_law zero cs = refl
  steps_down_law (suc k) cs = ap (λ z. steps_down k r z) (map_keep (λ (c : Category). c.name) (leads cs) r.categories)
      ∙ steps_down_law k (step (category_names r) leads cs)

  leads_own : (cs : List Bytes) (e : Bytes) → e ∈ cs → T (leads cs e)
  leads_own cs e m = or_l (mem e cs) _ (mem_i e cs m)

  down_from_law : (c : Bytes) → down_from r c ≡ steps (category_names r) leads (length (category_names r)) (c ∷ [])
  unfolding down_from category_names
  down_from_law c = rw (length-map r.categories (λ (c : Category). c.name)) (steps_down_law (length r.categories) (c ∷ []))

  -- the categories below a declared category are those that it reaches
  pub down_is_reached : (c : Bytes) → c ∈ category_names r → (e : Bytes) → (e ∈ down_from r c) ↔ Reaches r c e
  down_is_reached c m e = (λ k. found e (subst (λ z. e ∈ z) (down_from_law c) k), λ k. subst (λ z. e ∈ z) (sym (down_from_law c)) (all e k))
    where
      n : ℕ
      n = length (category_names r)

      start : Within (c ∷ []) (category_names r)
      start x k = Memᴰ.cast (eq_of_singleton k) m

      found : (e : Bytes) → e ∈ steps (category_names r) leads n (c ∷ []) → Reaches r c e
      found e k = holds_after (category_names r) leads (Reaches r c) adds n (c ∷ []) (λ x j. subst (Reaches r c) (sym (eq_of_singleton j)) itself) e k
        where
          adds : (cs : List Bytes) → ((x : Bytes) → x ∈ cs → Reaches r c x) → (x : Bytes) → x ∈ category_names r → T (leads cs x) → Reaches r c x
          adds cs h x j t = ⊎_elim (λ u. h x (mem_e x cs u))
              (λ u. let d = any_e (λ (d : Category). mem d.name cs && mem x d.over) r.categories u in
              let v = (and_iff (mem d.0.name cs) (mem x d.0.over)).1 d.2 in
              over (h d.0.name (mem_e d.0.name cs v.0)) d.1 (mem_e x d.0.over v.1) j)
              (or_cases (mem x cs) _ t)

      all : (e : Bytes) → Reaches r c e → e ∈ steps (category_names r) leads n (c ∷ [])
      all e itself = steps_keep (category_names r) leads leads_own n (c ∷ []) start c (Memᴰ.head refl)
      all e (over {d} p k o j) = closed (category_names r) leads leads_own (c ∷ []) start e j
          (let S = steps (category_names r) leads n (c ∷ []) in
          or_r (mem e S) _ (any_i (λ (d : Category). mem d.name S && mem e d.over) r.categories d k
          ((and_iff (mem d.name S) (mem e d.over)).0 (mem_i d.name S (all d.name p), mem_i e d.over o))))

  -- the enforced policies are the policies of the categories that a declared category reaches
  pub enforced_is_reached : (c : Bytes) → c ∈ category_names r → (p : Policy) → (p ∈ enforced r c) ↔ ((p ∈ r.policies) × Reaches r c p.category)
  unfolding enforced
  enforced_is_reached c m p =
      let of : Bytes → Policy → Bool = λ d q. same q.category d in (
        λ k. let j = joined_e (λ d. keep (of d) r.policies) (down_from r c) p k in
            let q = keep_e (of j.0) r.policies p j.2 in
            (q.0, subst (Reaches r c) (sym (same→eq p.category j.0 q.1)) ((down_is_reached c m j.0).0 j.1)),
        λ u. joined_i (λ d. keep (of d) r.policies) (down_from r c) p.category ((down_is_reached c m p.category).1 u.1) p
            (keep_i (of p.category) r.policies p u.0 (same_refl p.category)),
      )

-- for an accepted request the enforced policies are those of the categories that its category reaches
pub enforced_for_request : (b : Book) (r : Rules) (s : Bytes) (x : Request) → read_request b r s ≡ accepted x → (p : Policy)
    → (p ∈ enforced r x.category) ↔ ((p ∈ r.policies) × Reaches r x.category p.category)
enforced_for_request b r s x e p = enforced_is_reached r x.category (category_declared b r s x e) p

-- a category is over declared categories only
abbrev OverDeclared : Rules → Type 0
OverDeclared r = (d : Category) → d ∈ r.categories → (e : Bytes) → e ∈ d.over → e ∈ category_names r

rule_keeps_declared : (b : Book) (r : Rules) (x : RulesLine) → rules_fault b r x ≡ nothing → OverDeclared r → OverDeclared (add_rule r x)
unfolding rules_fault add_rule category_names
rule_keeps_declared b r (policy c bytes q) f h d k e m = h d k e m
rule_keeps_declared b r (category n actors lower) f h d k e m = ⊎_elim (λ j. old (h d j e m))
    (λ j. old (declared (subst (λ (z : Category). e ∈ z.over) (eq_of_singleton j) m))) (append_cases r.categories k)
  where
    old : e ∈ map (λ (c : Category). c.name) r.categories
        → e ∈ map (λ (c : Category). c.name) (r.categories ++ (record { name = n; actors = actors; over = lower } ∷ []))
    old i = let c = map_e (λ (c : Category). c.name) r.categories e i in
        Memᴰ.cast c.2 (map_i (λ (c : Category). c.name) _ c.0 (Memᴰ.append_left _ c.1))

    declared : e ∈ lower → e ∈ category_names r
    declared i = mem_e e (category_names r) (each_e (λ c. T (mem c (category_names r))) lower
        ((each_all (λ c. T (mem c (category_names r))) (λ c. mem c (category_names r)) (λ c. (λ t. t, λ t. t)) lower).1
        (not_e (all (λ c. mem c (category_names r)) lower) (lowest_e 4 _ _ f))) e i)

-- in accepted rules every category is over declared categories only, so a path needs no such premise
pub over_is_declared : (b : Book) (s : Bytes) (r : Rules) → read_rules b s ≡ accepted r → OverDeclared r
unfolding read_rules rules_step covered refusal
over_is_declared b s r e =
    let start : Rules = record { categories = []; policies = [] } in
    let o = read_lines 2 (rules_step b) 1 start (lines_of s) in
    let a = accept_e o covered r (bytes_e 2 16384 (λ l. l) s (on_accept o covered) r e) in
    lines_inv OverDeclared 2 (rules_step b)
    (λ x l y d h. let f = (step_known (and_then (form_of l) rules_line) (rules_fault b x) (add_rule x) y).0 d in
    subst OverDeclared f.3 (rule_keeps_declared b x f.0 f.2 h))
    1 start (lines_of s) r (a.1 ∙ kept a.0 (any (λ (c : Category). is_nil c.over && not (has_policy a.0 c.name)) a.0.categories) a.2)
    (λ d k. elim k [ ])
  where
    kept : (z : Rules) (c : Bool) → pick c (refusal 10 2 0) (accepted z) ≡ accepted r → accepted z ≡ accepted r
    kept z true e = never _ r e
    kept z false e = e
