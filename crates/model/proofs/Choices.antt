-- The tests of Rows decide which rows may be had.
use Prim.Native.Nat.{ℕ, ◌<◌}
use mathlib.Core.Path.{◌≡◌, refl, sym, ap, subst, ◌∙◌}
use mathlib.Core.Logic.{⊎_elim}
use mathlib.Core.List.Memᴰ
use mathlib.Core.List.Memᴰ.{cases_cons}
use mathlib.Core.List.{List, [], ◌∷◌, ◌++◌, map}
use mathlib.Core.List.Memᴰ.{append_cases}
use mathlib.Core.Bool.{Bool, true, false, not, ◌||◌}
use lib.ListN.{length, get_or}
use lib.Dec.{T, eqb, eqb→eq, eqb_refl}
use Rattle.model.specs.Bytes.{Bytes, same}
use Rattle.model.specs.Choice.{pick}
use Rattle.model.specs.Lists.{all, keep, below, place_where}
use Rattle.model.specs.Names.{mem, place}
use Rattle.model.specs.Book.{Book}
use Rattle.model.specs.Query.{vertex_names}
use Rattle.model.specs.Request.{Identity}
use Rattle.model.specs.Graph.{Each}
use Rattle.model.specs.Models.{Mapping, Models, models, mapping_of}
use Rattle.model.specs.Weave.{Asked}
use Rattle.model.specs.MayHave.{is_actor, Mapped, Agree, AllAgree, Identified}
use Rattle.model.specs.Rows.{nodes_for, some_choice, actor_nodes, all_have}
use Rattle.model.proofs.Decides.{and_iff, pick_iff, same→eq, same_refl, models_decides}
use Rattle.model.proofs.Members.{◌∈◌, mem_i, test, is_true, is_false, each_e, each_i, any_e, any_i, keep_e, keep_i, map_i, map_e, mem_e}
use Rattle.model.proofs.Members.{below_i, below_e, all_e, all_i}
use Rattle.model.proofs.ByNodes.{Named, again, node_in_law, node_eq, again_models}

-- a list of nodes, one allowed for each vertex
abbrev pub Choice : ℕ → List Identity → List Bytes → List ℕ → Type 0
Choice n given [] [] = Unit {0}
Choice n given [] (x ∷ ns) = ⊥
Choice n given (v ∷ vs) [] = ⊥
Choice n given (v ∷ vs) (x ∷ ns) = (x ∈ nodes_for n given v) × Choice n given vs ns

-- where some choice passes a test, there is a choice that passes it
pub choice_e : (n : ℕ) (given : List Identity) (vs : List Bytes) (p : List ℕ → Bool) → T (some_choice n given vs p)
    → (ns : List ℕ) × Choice n given vs ns × T (p ns)
unfolding some_choice
choice_e n given [] p t = ([], tt, t)
choice_e n given (v ∷ vs) p t =
    let r = any_e (λ x. some_choice n given vs (λ ns. p (x ∷ ns))) (nodes_for n given v) t in
    let c = choice_e n given vs (λ ns. p (r.0 ∷ ns)) r.2 in (r.0 ∷ c.0, (r.1, c.1), c.2)

-- a choice that passes a test is some choice
pub choice_i : (n : ℕ) (given : List Identity) (vs : List Bytes) (p : List ℕ → Bool) (ns : List ℕ) → Choice n given vs ns → T (p ns)
    → T (some_choice n given vs p)
unfolding some_choice
choice_i n given [] p [] c t = t
choice_i n given [] p (x ∷ ns) c t = absurd c
choice_i n given (v ∷ vs) p [] c t = absurd c
choice_i n given (v ∷ vs) p (x ∷ ns) c t = any_i (λ y. some_choice n given vs (λ ms. p (y ∷ ms))) (nodes_for n given v) x c.0
    (choice_i n given vs (λ ms. p (x ∷ ms)) ns c.1 t)

-- a choice gives each vertex a node that it may have
choice_at : (n d : ℕ) (given : List Identity) (vs : List Bytes) (ns : List ℕ) → Choice n given vs ns → (v : Bytes) → v ∈ vs
    → get_or ns (place v vs) d ∈ nodes_for n given v
unfolding place place_where
choice_at n d given [] ns c v m = elim m [ ]
choice_at n d given (u ∷ vs) [] c v m = absurd c
choice_at n d given (u ∷ vs) (x ∷ ns) c v m = ⊎_elim
    (λ t. rw (is_true (same v u) t) (subst (λ w. x ∈ nodes_for n given w) (sym (same→eq v u t)) c.0))
    (λ t. ⊎_elim (λ e. absurd (t (subst (λ z. T (same v z)) e (same_refl v)))) (λ k. rw (is_false (same v u) t) (choice_at n d given vs ns c.1 v k))
    (cases_cons m))
    (test (same v u))

-- nodes that the vertices may have are a choice
choice_map : (n : ℕ) (given : List Identity) (f : Bytes → ℕ) (vs : List Bytes) → ((v : Bytes) → v ∈ vs → f v ∈ nodes_for n given v)
    → Choice n given vs (map f vs)
choice_map n given f [] h = tt
choice_map n given f (v ∷ vs) h = (h v (Memᴰ.head refl), choice_map n given f vs (λ u m. h u (Memᴰ.tail m)))

-- an implication as a test
implies_e : (a b : Bool) → T (not a || b) → T a → T b
implies_e true b t u = t
implies_e false b t u = absurd u

implies_i : (a b : Bool) → (T a → T b) → T (not a || b)
implies_i true b f = f tt
implies_i false b f = tt

-- a node keeps what is given to the vertex v
abbrev keeps : Bytes → ℕ → Identity → Bool
keeps v x g = not (same g.actor v) || eqb g.node x

-- the nodes that a vertex may have are those of the book that keep what is given
nodes_e : (n : ℕ) (given : List Identity) (v : Bytes) (x : ℕ) → x ∈ nodes_for n given v → (x < n) × ((g : Identity) → g ∈ given → g.actor ≡ v → g.node ≡ x)
unfolding nodes_for
nodes_e n given v x m =
    let r = keep_e (λ (y : ℕ). all (keeps v y) given) (below n) x m in (
      below_e n x r.0,
      λ g k e. eqb→eq g.node x
          (implies_e (same g.actor v) (eqb g.node x) (all_e (keeps v x) given r.1 g k) (subst (λ w. T (same g.actor w)) e (same_refl g.actor))),
    )

nodes_i : (n : ℕ) (given : List Identity) (v : Bytes) (x : ℕ) → x < n → ((g : Identity) → g ∈ given → g.actor ≡ v → g.node ≡ x) → x ∈ nodes_for n given v
unfolding nodes_for
nodes_i n given v x l h = keep_i (λ (y : ℕ). all (keeps v y) given) (below n) x (below_i n x l) (all_i (keeps v x) given (λ g k.
    implies_i (same g.actor v) (eqb g.node x) (λ t. subst (λ z. T (eqb g.node z)) (h g k (same→eq g.actor v t)) (eqb_refl g.node))))

-- an actor vertex: a vertex of its text, and an actor of its text's category
pub actor_i : (a : Asked) (v : Bytes) → v ∈ vertex_names a.text → T (mem v a.actors) → T (is_actor a v)
unfolding is_actor
actor_i a v n t = (and_iff (mem v (vertex_names a.text)) (mem v a.actors)).0 (mem_i v (vertex_names a.text) n, t)

-- and back
pub actor_e : (a : Asked) (v : Bytes) → T (is_actor a v) → (v ∈ vertex_names a.text) × T (mem v a.actors)
unfolding is_actor
actor_e a v t = let r = (and_iff (mem v (vertex_names a.text)) (mem v a.actors)).1 t in (mem_e v (vertex_names a.text) r.0, r.1)

-- a mapping is a model of its text
abbrev pub IsModel : Book → Mapped → Type 0
IsModel b h = Models b h.asked.text h.mapping

-- an actor vertex has its identity's node
abbrev pub KeepsIdentity : Mapped → Identity → Type 0
KeepsIdentity x i = T (is_actor x.asked i.actor) → x.mapping.node i.actor ≡ i.node

-- who keeps two lists of identities keeps the first
pub identified_before : (x : Mapped) (given more : List Identity) → Identified (given ++ more) x → Identified given x
identified_before x given more h = each_i (KeepsIdentity x) given (λ i k. each_e (KeepsIdentity x) (given ++ more) h i (Memᴰ.append_left more k))

-- and the second
pub identified_behind : (x : Mapped) (given more : List Identity) → Identified (given ++ more) x → Identified more x
identified_behind x given more h = each_i (KeepsIdentity x) more (λ i k. each_e (KeepsIdentity x) (given ++ more) h i (Memᴰ.append_right given k))

-- a chosen list of nodes keeps what is given
pub choice_keeps : (b : Book) (a : Asked) (given : List Identity) (ns : List ℕ) → Choice (length b.nodes) given (vertex_names a.text) ns
    → (i : Identity) → i ∈ given → i.actor ∈ vertex_names a.text → (mapping_of b a.text ns).node i.actor ≡ i.node
unfolding mapping_of
choice_keeps b a given ns c i k m = sym ((nodes_e (length b.nodes) given i.actor _
    (choice_at (length b.nodes) (length b.nodes) given (vertex_names a.text) ns c i.actor m)).1 i k refl)

-- who keeps the nodes of a mapping's actors agrees with it
pub agrees_behind : (a : Asked) (m : Mapping) (y : Mapped) → Identified (actor_nodes a m) y → Agree (record { asked = a; mapping = m }) y
unfolding actor_nodes
agrees_behind a m y h v ax ay = sym (each_e (KeepsIdentity y) (actor_nodes a m) h (record { actor = v; node = m.node v })
    (map_i (λ w. record { actor = w; node = m.node w }) (keep (is_actor a) (vertex_names a.text)) v
    (keep_i (is_actor a) (vertex_names a.text) v (actor_e a v ax).0 ax)) ay)

-- where the test of the policies holds, they have mappings that agree
pub all_have_e : (b : Book) (given : List Identity) (l : List Asked) → T (all_have b given l)
    → (hs : List Mapped) × (map (λ h. h.asked) hs ≡ l) × Each (IsModel b) hs × AllAgree hs × Each (Identified given) hs
unfolding all_have
all_have_e b given [] t = ([], refl, tt, tt, tt)
all_have_e b given (a ∷ l) t =
    let G = keep (λ (g : Identity). is_actor a g.actor) given in
    let r = choice_e (length b.nodes) G (vertex_names a.text)
    (λ ns. pick (models b a.text (mapping_of b a.text ns)) (all_have b (given ++ actor_nodes a (mapping_of b a.text ns)) l) false) t in
    let m : Mapping = mapping_of b a.text r.0 in
    let u = (pick_iff (models b a.text m) (all_have b (given ++ actor_nodes a m) l)).1 r.2 in
    let ih = all_have_e b (given ++ actor_nodes a m) l u.1 in
    let x : Mapped = record { asked = a; mapping = m } in
    let part : (y : Mapped) → y ∈ ih.0 → Identified (given ++ actor_nodes a m) y = λ y k. each_e (Identified (given ++ actor_nodes a m)) ih.0 ih.4 y k in (
      x ∷ ih.0,
      ap (λ z. a ∷ z) ih.1,
      ((models_decides b a.text m).1 u.0, ih.2),
      (each_i (Agree x) ih.0 (λ y k. agrees_behind a m y (identified_behind y given (actor_nodes a m) (part y k))), ih.3),
      (
        each_i (KeepsIdentity x) given (λ i k w. choice_keeps b a G r.0 r.1 i (keep_i (λ (g : Identity). is_actor a g.actor) given i k w)
            (actor_e a i.actor w).0),
        each_i (Identified given) ih.0 (λ y k. identified_before y given (actor_nodes a m) (part y k)),
      ),
    )

-- what y has to agree with after x
pub agrees_with_next : (b : Book) (x y : Mapped) (given : List Identity) (mx : Models b x.asked.text x.mapping) → Identified given y → Agree x y
    → Identified (given ++ actor_nodes x.asked (again b x.asked.text x.mapping mx)) y
unfolding actor_nodes
agrees_with_next b x y given mx h g = let a : Asked = x.asked in let m : Mapping = again b a.text x.mapping mx in
    each_i (KeepsIdentity y) (given ++ actor_nodes a m) (λ i k. ⊎_elim (λ j. each_e (KeepsIdentity y) given h i j)
    (λ j w. let r = map_e (λ (v : Bytes). let z : Identity = record { actor = v; node = m.node v } in z) (keep (is_actor a) (vertex_names a.text)) i j in
    let s = keep_e (is_actor a) (vertex_names a.text) r.0 r.1 in
    let p : i.actor ≡ r.0 = ap (λ z. z.actor) r.2 in
    ap y.mapping.node p ∙ sym (g r.0 s.1 (subst (λ z. T (is_actor y.asked z)) p w)) ∙ node_eq b a.text x.mapping mx r.0 s.0
    ∙ sym (ap (λ z. z.node) r.2))
    (append_cases given k))

-- a model's nodes are a choice
pub model_choice : (b : Book) (x : Mapped) (given : List Identity) → Models b x.asked.text x.mapping
    → ((i : Identity) → i ∈ given → i.actor ∈ vertex_names x.asked.text → x.mapping.node i.actor ≡ i.node)
    → Choice (length b.nodes) given (vertex_names x.asked.text) (map x.mapping.node (vertex_names x.asked.text))
model_choice b x given mx h = choice_map (length b.nodes) given x.mapping.node (vertex_names x.asked.text) (λ v k.
    nodes_i (length b.nodes) given v (x.mapping.node v) (node_in_law b x.asked.text x.mapping mx v k)
    (λ g j e. sym (h g j (Memᴰ.cast e k)) ∙ ap x.mapping.node e))

-- where the policies have mappings that agree, the test holds
pub all_have_i : (b : Book) (hs : List Mapped) (given : List Identity) → Each (IsModel b) hs → ((h : Mapped) → h ∈ hs → Named h.asked.text)
    → AllAgree hs → Each (Identified given) hs
    → T (all_have b given (map (λ h. h.asked) hs))
unfolding all_have
all_have_i b [] given ms ns ag ids = tt
all_have_i b (x ∷ hs) given ms ns ag ids =
    let a : Asked = x.asked in
    let m : Mapping = again b a.text x.mapping ms.0 in
    let G = keep (λ (g : Identity). is_actor a g.actor) given in
    choice_i (length b.nodes) G (vertex_names a.text)
    (λ k. pick (models b a.text (mapping_of b a.text k)) (all_have b (given ++ actor_nodes a (mapping_of b a.text k)) (map (λ h. h.asked) hs)) false)
    (map x.mapping.node (vertex_names a.text))
    (model_choice b x G ms.0 (λ i k v. let r = keep_e (λ (g : Identity). is_actor a g.actor) given i k in
    each_e (KeepsIdentity x) given ids.0 i r.0 r.1))
    ((pick_iff (models b a.text m) (all_have b (given ++ actor_nodes a m) (map (λ h. h.asked) hs))).0 (
      (models_decides b a.text m).0 (again_models b a.text x.mapping ms.0 (ns x (Memᴰ.head refl))),
      all_have_i b hs (given ++ actor_nodes a m) ms.1 (λ h k. ns h (Memᴰ.tail k)) ag.1
          (each_i (Identified (given ++ actor_nodes a m)) hs
          (λ y k. agrees_with_next b x y given ms.0 (each_e (Identified given) hs ids.1 y k) (each_e (Agree x) hs ag.0 y k))),
    ))
