-- What accepted rules hold: every policy text is an accepted query.
use Prim.Native.Nat.{ℕ, ◌≤◌}
use mathlib.Core.Path.{◌≡◌, refl, sym, subst, ◌∙◌}
use mathlib.Core.Logic.{⊎_elim}
use mathlib.Core.List.Memᴰ.{append_cases}
use mathlib.Core.List.Memᴰ.{eq_of_singleton}
use mathlib.Core.List.{List, []}
use mathlib.Core.Bool.{not, ◌&&◌}
use lib.ListN.{length}
use lib.Dec.{ltb, nltb→le, not_T}
use Rattle.model.specs.Bytes.{Bytes, bytes_of, same}
use Rattle.model.specs.Choice.{pick, nothing, just, and_then}
use Rattle.model.specs.Lists.{is_nil, any, keep}
use Rattle.model.specs.Names.{mem}
use Rattle.model.specs.Items.{Item, text}
use Rattle.model.specs.Refusal.{accepted, refusal, on_accept}
use Rattle.model.specs.Lines.{Line, lines_of, read_lines, known, fault_or}
use Rattle.model.specs.Forms.{as_word, as_name, as_quoted, at_end, form_of}
use Rattle.model.specs.Book.{Book}
use Rattle.model.specs.QueryText.{QueryText}
use Rattle.model.specs.Grammar.{query_text}
use Rattle.model.specs.ReadQuery.{has_undeclared, has_twice, too_many, query_faults, query_fault, read_query}
use Rattle.model.specs.Rules.{Category, Policy, Rules, category_names, actors_of, down_from, enforced}
use Rattle.model.specs.ReadRules.{RulesLine, category, policy, names_after, category_line, policy_line, rules_line, has_policy, policy_faults}
use Rattle.model.specs.ReadRules.{rules_fault, add_rule, rules_step, covered, read_rules}
use Rattle.model.specs.Request.{Request}
use Rattle.model.specs.Weave.{Asked, asked_policies}
use Rattle.model.proofs.Decides.{or_l, or_r}
use Rattle.model.proofs.Members.{◌∈◌, keep_e, map_e, joined_e}
use Rattle.model.proofs.ByNodes.{Named}
use Rattle.model.proofs.Outcomes.{no_just, then_e, pick_e, else_e, bytes_accepted, accept_e, no_fault, form_e, fault_e, lines_keep}
use Rattle.model.proofs.AllowedBytes.{Allowed, allowed_line, line_allowed, lines_allowed}
use Rattle.model.proofs.LineItems.{FitAll, at_end_e_law, policy_text_allowed, form_fits, first_e}
use Rattle.model.proofs.AcceptedQuery.{ClearNames, query_clear, accept_query}

-- a line of the rules as it was read: its policy is the text of so many allowed bytes
abbrev RuleFits : RulesLine → Type 0
RuleFits (category n actors over) = Unit {0}
RuleFits (policy c k q) = (t : Bytes) × Allowed t × (length t ≡ k) × (query_text t ≡ just q)

category_fits : (is : List Item) (x : RulesLine) → FitAll is → category_line is ≡ just x → RuleFits x
unfolding category_line
category_fits is x h e =
    let n = first_e as_name is _ x h e in
    let a = first_e (names_after (bytes_of "actors")) n.1 _ x n.4 n.6 in
    let o = first_e (names_after (bytes_of "over")) a.1 _ x a.4 a.6 in
    subst RuleFits (at_end_e_law o.1 (category n.2 a.2 o.2) x o.6) tt

policy_fits : (is : List Item) (x : RulesLine) → FitAll is → policy_line is ≡ just x → RuleFits x
unfolding policy_line
policy_fits is x h e =
    let n = first_e as_name is _ x h e in
    let t = first_e as_quoted n.1 _ x n.4 n.6 in
    let u = then_e (at_end t.1 t.2) _ x t.6 in
    let q = then_e (query_text u.0) _ x u.2 in
    let z : just (policy n.2 (length u.0) q.0) ≡ just x = q.2 in
    let d : policy n.2 (length u.0) q.0 ≡ x = cc in
    subst RuleFits d (u.0, subst Allowed (at_end_e_law t.1 t.2 u.0 u.1) (policy_text_allowed t.0 t.2 t.3 t.5), refl, q.1)

rule_fits : (l : Line) (x : RulesLine) → Allowed l.bytes → and_then (form_of l) rules_line ≡ just x → RuleFits x
unfolding rules_line
rule_fits l x a e =
    let r = then_e (form_of l) rules_line x e in
    let w = first_e as_word r.0 _ x (form_fits l r.0 a r.1) r.2 in
    ⊎_elim (λ h. category_fits w.1 x w.4 h)
    (λ h. ⊎_elim (λ h. policy_fits w.1 x w.4 h) (λ h. no_just x h) (pick_e (same w.2 (bytes_of "policy")) (policy_line w.1) nothing x h))
    (pick_e (same w.2 (bytes_of "category")) (category_line w.1) (pick (same w.2 (bytes_of "policy")) (policy_line w.1) nothing) x w.6)

-- what the rules hold after each line
pub record RulesHold (b : Book) (r : Rules) : Type 0 where
  pub policies : (p : Policy) → p ∈ r.policies → (t : Bytes) × (read_query b t ≡ accepted p.text)

-- a policy without a fault is a query without a fault, in at most 2,048 bytes
policy_accepted : (b : Book) (r : Rules) (c : Bytes) (k : ℕ) (q : QueryText) → RuleFits (policy c k q) → rules_fault b r (policy c k q) ≡ nothing
    → (t : Bytes) × (read_query b t ≡ accepted q)
unfolding rules_fault query_fault
policy_accepted b r c k q (t, a, l, e) f =
    let C = not (mem c (category_names r)) in
    let h = (no_fault (policy_faults b r c k q)).0 f in (
      t,
      accept_query b t q (record {
        short = subst (λ z. z ≤ 2048) (sym l) (nltb→le 2048 k (not_T (ltb 2048 k) (λ u. h.1.1.1.0 (or_l (ltb 2048 k) (too_many q) u))));
        allowed = allowed_line 1 t a;
        is_text = e;
        faultless = (no_fault (query_faults b q)).1 (
          λ u. h.0 (or_r C (has_undeclared b q) u),
          (
            λ u. h.1.0 (or_r (has_policy r c) (has_twice q) u),
            (h.1.1.0, (λ u. h.1.1.1.0 (or_r (ltb 2048 k) (too_many q) u), (h.1.1.1.1.0, tt))),
          ),
        );
      }),
    )

rules_step_law : (b : Book) (r : Rules) (x : RulesLine) (y : Rules) → RuleFits x → fault_or (rules_fault b r x) (add_rule r x) ≡ known y → RulesHold b r
    → RulesHold b y
unfolding add_rule
rules_step_law b r x y l e h = go x l (fault_e (rules_fault b r x) (add_rule r x) y e)
  where
    go : (x : RulesLine) → RuleFits x → (rules_fault b r x ≡ nothing) × (add_rule r x ≡ y) → RulesHold b y
    go (category n actors over) l (f, d) = subst (RulesHold b) d (record { policies = h.policies })
    go (policy c k q) l (f, d) = subst (RulesHold b) d (record {
      policies = λ p i. ⊎_elim (h.policies p)
          (λ j. subst (λ (z : Policy). (t : Bytes) × (read_query b t ≡ accepted z.text)) (sym (eq_of_singleton j)) (policy_accepted b r c k q l f))
          (append_cases r.policies i);
    })

-- accepted rules hold this
pub rules_hold : (b : Book) (s : Bytes) (r : Rules) → read_rules b s ≡ accepted r → RulesHold b r
unfolding read_rules rules_step covered refusal
rules_hold b s r e =
    let start : Rules = record { categories = []; policies = [] } in
    let o = read_lines 2 (rules_step b) 1 start (lines_of s) in
    let h = bytes_accepted 2 16384 (λ l. l) s (on_accept o covered) r e in
    let a = accept_e o covered r h.rest in
    lines_keep (RulesHold b) (λ l. Allowed l.bytes) 2 (rules_step b)
    (λ x l y q d h. let f = form_e (and_then (form_of l) rules_line) (λ z. fault_or (rules_fault b x z) (add_rule x z)) y d in
    rules_step_law b x f.0 y (rule_fits l f.0 q f.1) f.2 h)
    1 start (lines_of s) r (lines_allowed s (line_allowed 1 s h.allowed))
    (a.1 ∙ (else_e (any (λ (c : Category). is_nil c.over && not (has_policy a.0 c.name)) a.0.categories)
    (record { number = 10; text = 2; line = 0 }) (accepted a.0) r a.2).1)
    (record { policies = λ p k. elim k [ ] })

-- the text of every policy of accepted rules is an accepted query
pub policy_is_query : (b : Book) (s : Bytes) (r : Rules) → read_rules b s ≡ accepted r → (p : Policy) → p ∈ r.policies
    → (t : Bytes) × (read_query b t ≡ accepted p.text)
policy_is_query b s r e = (rules_hold b s r e).policies

-- so its names are clear
pub policy_clear : (b : Book) (s : Bytes) (r : Rules) → read_rules b s ≡ accepted r → (p : Policy) → p ∈ r.policies → ClearNames p.text
policy_clear b s r e p k = let t = policy_is_query b s r e p k in query_clear b t.0 p.text t.1

-- and it names in its conditions and in Return what stands in its chains
pub rules_named : (b : Book) (s : Bytes) (r : Rules) → read_rules b s ≡ accepted r → (p : Policy) → p ∈ r.policies → Named p.text
rules_named b s r e p k = (policy_clear b s r e p k).declared

-- an enforced policy is a policy of the rules, with the actors of its own category
pub asked_policy : (r : Rules) (x : Request) (a : Asked) → a ∈ asked_policies r x
    → (p : Policy) × (p ∈ r.policies) × (a ≡ record { text = p.text; actors = actors_of r p.category })
unfolding asked_policies enforced
asked_policy r x a k =
    let p = map_e (λ (p : Policy). let z : Asked = record { text = p.text; actors = actors_of r p.category } in z) (enforced r x.category) a k in
    let j = joined_e (λ (d : Bytes). keep (λ (p : Policy). same p.category d) r.policies) (down_from r x.category) p.0 p.1 in
    (p.0, (keep_e (λ (z : Policy). same z.category j.0) r.policies p.0 j.2).0, p.2)
