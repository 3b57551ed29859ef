-- The answer: after all texts and the identities, the words stand as the search wants them, or the refusal is the model's. Assumes nothing.
use Prim.Native.Nat.{ℕ, ◌+◌, ◌≤◌}
use mathlib.Core.Path.{◌≡◌, sym, ap, subst, ◌∙◌}
use mathlib.Core.List.{List}
use mathlib.Core.Bool.{true, false}
use native.Mathlib.Omega.{arith}
use lib.ListN.{length, get_or}
use Rattle.std.specs.Prelude.{Result}
use Rattle.model.specs.Bytes.{Bytes}
use Rattle.model.specs.Choice.{just}
use Rattle.model.specs.Lists.{keep}
use Rattle.model.specs.Names.{place}
use Rattle.model.specs.Book.{Book}
use Rattle.model.specs.QueryText.{QueryText}
use Rattle.model.specs.Query.{vertex_names}
use Rattle.model.specs.Pattern.{pattern_of}
use Rattle.model.specs.Request.{Identity}
use Rattle.model.specs.Weave.{Asked, is_excluded, named, moved, returns_of, weave, woven_fault, WovenPattern}
use Rattle.model.specs.declared.Identity.{Identity as IdentityData}
use Rattle.model.specs.declared.RequestRead.{RequestRead}
use Rattle.model.proofs.Places.{length_map}
use Rattle.book_tables.specs.declared.BookCounts.{BookCounts}
use Rattle.book_tables.specs.View.{book_at, name_of}
use Rattle.book_tables.proofs.ListedLaws.{length_listed}
use Rattle.rules_tables.specs.declared.RulesCounts.{RulesCounts}
use Rattle.rules_tables.specs.Layout.{names}
use Rattle.rules_tables.specs.View.{actors_at, tree_of}
use Rattle.woven_tables.specs.declared.WovenCounts.{WovenCounts}
use Rattle.woven_tables.specs.Tables.{returns_at, woven_at, woven_words}
use Rattle.woven_tables.proofs.VertexLaws.{length_vertices}
use Rattle.weave.specs.OneMore.{under_names, Ranged}
use Rattle.weave.specs.Identities.{identities_in, IdentitiesReady, FinishReady, Finished}
use Rattle.weave.proofs.Whole.{woven_low, woven_stays, woven_fault_law}
use Rattle.weave.specs.Given.{Given, Identified}
use Rattle.weave.proofs.Ranges.{weave_ranged}
use Rattle.weave.proofs.Identified.{identities_say}
use Rattle.enforce.specs.Texts.{texts_below}
use Rattle.enforce.specs.OneNamed.{one_named, AllNamed, Declared}
use Rattle.enforce.specs.Ready.{TextsClear, Held}
use Rattle.enforce.specs.Woven.{AllWoven, AskedSays, AskedAnswer}
use Rattle.enforce.proofs.DeclaredLaws.{labels_below, attributes_below}
use Rattle.enforce.proofs.TextLaws.{tree_is, texts_are}
use Rattle.enforce.proofs.ClearLaws.{some_returned, texts_sound}

module _ (book : Bytes) (words : List ℕ) (k : BookCounts) (query rules : Bytes) (rules_words : List ℕ) (rc : RulesCounts) (category : ℕ)
    (clear : TextsClear book words k query rules rules_words rc category) where
  abbrev b : Book
  b = book_at book words k

  abbrev all_texts : List Asked
  all_texts = texts_below query rules rules_words rc category rc.categories

  -- what is said of the texts in the words' terms answers for the model's request and tree
  pub answer_for : (request : Bytes) (rd : RequestRead) → rd.category ≡ category → (woven : List ℕ) (out : Result WovenCounts ℕ)
      → AskedSays book words k query rules all_texts (identities_in request rd.identities rd.count) (length (tree_of query).returns) woven out
      → AskedAnswer book words query rules rules_words request (record { book = k; rules = rc; request = rd }) woven out
  answer_for request rd at woven out says x its same tree is =
      let whole = texts_are query rules rules_words rc clear.rules_fit category clear.counted x (its ∙ ap (name_of rules rules_words names) at) tree is in
      subst (λ a. AskedSays book words k query rules a x.identities (length tree.returns) woven out) (sym whole)
      (subst (λ ids. AskedSays book words k query rules all_texts ids (length tree.returns) woven out) (sym same)
      (subst (λ (t : QueryText). AskedSays book words k query rules all_texts (identities_in request rd.identities rd.count)
      (length t.returns) woven out) (tree_is query tree is) says))

  module _ (old new : List ℕ) (c : WovenCounts) (held : Held b k query rules rules_words rc category rc.categories old c) where
    pub finish_ready : (request : Bytes) (identities : List IdentityData) (count : ℕ) → IdentitiesReady request identities count
        → FinishReady query rules request old c identities count
    finish_ready request identities count ready = record {
      kept = held.kept;
      low = woven_low b query rules all_texts old new c held.held (texts_sound book words k query rules rules_words rc category clear);
      identified = ready;
    }

    -- a vertex is not tied: 13
    pub not_tied : (ids : List Identity) → Finished query rules ids old new c false → woven_fault (weave all_texts) ids ≡ just 13
    not_tied ids finished = woven_fault_law b query rules all_texts old new c held.held ids false finished

    -- as many vertices and Return vertices as are counted
    vertex_count : length (woven_at b query rules new c).vertices ≡ c.vertices
    unfolding woven_at
    vertex_count = length_vertices query rules new c.vertices

    return_count : woven_at b query rules new c ≡ weave all_texts → c.returns ≡ length (tree_of query).returns
    unfolding woven_at returns_at weave named returns_of pattern_of texts_below under_names
    return_count e =
        let tree = pattern_of (tree_of query) in
        sym (length_listed (λ i. get_or new (408 + i) 0) c.returns) ∙ ap (λ (p : WovenPattern). length p.returns) e
        ∙ length_map (λ (v : ℕ). moved (weave all_texts).vertices (under_names 0 (actors_at rules rules_words category) tree) v) tree.returns
        ∙ length_map (λ v. place v (vertex_names (tree_of query))) (tree_of query).returns

    module _ (ids : List Identity) (finished : Finished query rules ids old new c true) (room : woven_words ≤ length new) where
      stays : woven_at b query rules new c ≡ weave all_texts
      stays = woven_stays b query rules all_texts old new c held.held ids true finished

      declared : Declared k query rules new c
      declared = subst AllNamed (sym (finished.same_pattern (one_named k))) held.declared

      exclusions_counted : length (keep is_excluded (woven_at b query rules new c).clauses) ≡ c.exclusions
      unfolding woven_at
      exclusions_counted = ap (λ (p : WovenPattern). length (keep is_excluded p.clauses)) (finished.same_pattern b) ∙ held.kept.counted b

      search_given : Given book words k query rules new c
      search_given =
          let returned = return_count stays in
          record {
            fits = clear.fits;
            room = room;
            vertices = held.kept.vertices;
            edges = held.kept.edges;
            exclusions = held.kept.exclusions;
            requirements = held.kept.requirements;
            some_return = omega (arith, some_returned book words k query rules rules_words rc category clear);
            returns = held.kept.returns;
            labels = labels_below k query rules new c declared;
            attributes = attributes_below k query rules new c declared;
            values = finished.values;
            counted = exclusions_counted;
            ranged = subst Ranged (sym stays) (weave_ranged all_texts (texts_sound book words k query rules rules_words rc category clear));
          }

      pub all_woven : AllWoven book words k query rules all_texts ids (length (tree_of query).returns) new c
      all_woven = record {
        held = stays;
        no_fault = woven_fault_law b query rules all_texts old new c held.held ids true finished;
        given = search_given;
        identified = λ once. subst (λ p. Identified p ids new) stays
            (identities_say (woven_at b query rules new c) ids new once (λ v h. finished.given b v (omega (arith, vertex_count))));
        returns = return_count stays;
      }
