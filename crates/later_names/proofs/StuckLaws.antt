-- Whether new names are free: one of them, and all of them one after another.
use Prim.Native.Nat.{ℕ, ◌+◌, ◌*◌, ◌≤◌, ◌<◌}
use mathlib.Core.Path.{◌≡◌, refl, sym, ap, ap₂, ◌∙◌}
use mathlib.Core.List.{List, [], ◌∷◌, ◌++◌, map}
use mathlib.Core.Bool.{Bool, true, false, ◌||◌}
use native.Mathlib.Omega.{arith}
use lib.ListN.{length, get_or, length-append}
use lib.Dec.{ltb}
use borrow.Author.Tests.{lt-ltb, le-ltb, ltb-false}
use Rattle.logic.specs.Flags.{or_true, or_false, neither}
use Rattle.model.specs.Bytes.{Bytes, same}
use Rattle.model.specs.Choice.{nothing, just}
use Rattle.model.specs.Limits.{max_book_bytes}
use Rattle.model.specs.Lists.{any}
use Rattle.model.specs.Names.{Name, same_but_case}
use Rattle.model.specs.Book.{node_names}
use Rattle.model.specs.Renaming.{suffix, later_names, renamed, cannot_have, first_stuck}
use Rattle.renaming.proofs.AcceptedBook.{book_bytes}
use Rattle.book_tables.specs.declared.BookCounts.{BookCounts}
use Rattle.book_tables.specs.declared.NameRule.TheVariants.{AnyCase}
use Rattle.book_tables.specs.Layout as layout
use Rattle.book_tables.specs.View.{name_of, book_at}
use Rattle.book_tables.specs.Alike.{NodeAlike}
use Rattle.book_tables.proofs.AlikeLaws.{alike_there}
use Rattle.later_names.specs.Later.{is_taken, FoundAbove}
use Rattle.later_names.specs.Ends.{ends_in}
use Rattle.later_names.specs.Ask.{ReadExactly}
use Rattle.later_names.proofs.CaseLaws.{any_end_added}
use Rattle.later_names.proofs.LaterLaws.{later_at, later_below, later_more, free_none, free_other, free_later, stuck_here}
use Rattle.later_names.proofs.NumberLaws.{names_listed, name_at_law, later_at_law, given_at, taken_at}
use Rattle.later_names.proofs.LengthLaws.{length_none, length_other, length_later}

-- a name of more than 22 bytes has no new one
pub too_long_law : (names : List Name) (i : ℕ) (name : Name) → name ≡ get_or names i [] → 24 < length name + 2 → true ≡ is_taken names i
unfolding is_taken
too_long_law names i name e l = rw (sym e)
    (sym (ap (λ t. any (same_but_case (name ++ suffix)) names || t) (lt-ltb 24 (length (name ++ suffix)) (let z = length-append name suffix in omega arith))
    ∙ or_true (any (same_but_case (name ++ suffix)) names)))

-- the new name of a shorter one is free exactly if no node is found by it
pub found_taken : (text : Bytes) (words : List ℕ) (c : BookCounts) (i : ℕ) (name longer : Name) (r : ℕ) → name ≡ get_or (node_names (book_at text words c)) i []
    → length name + 2 ≤ 24 → longer ≡ name ++ suffix → NodeAlike AnyCase text words c longer r → ltb r c.nodes ≡ is_taken (node_names (book_at text words c)) i
unfolding is_taken
found_taken text words c i name longer r e l q f = rw (sym e)
    (sym (alike_there AnyCase text words c longer r f) ∙ ap (λ z. any (same_but_case z) (node_names (book_at text words c))) q
    ∙ sym (ap (λ t. any (same_but_case (name ++ suffix)) (node_names (book_at text words c)) || t)
    (le-ltb 24 (length (name ++ suffix)) (let z = length-append name suffix in omega arith))
    ∙ or_false (any (same_but_case (name ++ suffix)) (node_names (book_at text words c)))))

-- the four reasons in the order in which they are asked for
reordered : (a b c d : Bool) → (a || b || c || d) ≡ (b || d || (a || c))
reordered true b c d = sym (or_true (b || d))
reordered false true c d = refl
reordered false false true d = sym (or_true d)
reordered false false false d = sym (or_false d)

-- the later names of the nodes below have their new ones, and the text with them is so long
pub record Going (text : Bytes) (words : List ℕ) (c : BookCounts) (node size : ℕ) : Type 0 where
  pub inside : node ≤ c.nodes
  pub free : first_stuck text (node_names (book_at text words c)) [] (later_below (name_of text words layout.node_names) node) ≡ nothing
  pub long : size ≡ length (renamed (later_below (name_of text words layout.node_names) node) text)
  pub short : size ≤ max_book_bytes

module _ (text : Bytes) (words : List ℕ) (c : BookCounts) (read : ReadExactly text words c) where
  abbrev name_at : ℕ → Name
  name_at = name_of text words layout.node_names

  abbrev names : List Name
  names = node_names (book_at text words c)

  pub going_first : Going text words c 0 (length text)
  going_first = record {
    inside = omega arith;
    free = free_none name_at text names;
    long = length_none text words c read;
    short = (book_bytes same text (book_at text words c) read.is).short;
  }

  module _ (node size : ℕ) (there : node < c.nodes) (g : Going text words c node size) (above : ℕ) (found : FoundAbove names node above) where
    is_later_law : ltb 0 above ≡ later_at name_at node
    is_later_law = found.later ∙ later_at_law name_at c.nodes names (names_listed text words c) node there

    -- a name that is no later one
    pub going_other : above ≤ 0 → Going text words c (node + 1) size
    going_other l =
        let no : later_at name_at node ≡ false = sym is_later_law ∙ le-ltb 0 above l in
        record {
          inside = omega arith;
          free = free_other name_at text names node g.free no;
          long = g.long ∙ sym (length_other text words c read node no);
          short = g.short;
        }

    module _ (some : 0 < above) (longer : ℕ) (with : longer ≡ size + 2 * (1 + ends_in words c.relationships node)) where
      yes : later_at name_at node ≡ true
      yes = sym is_later_law ∙ lt-ltb 0 above some

      longer_is : longer ≡ length (renamed (later_below name_at (node + 1)) text)
      longer_is = let e = length_later text words c read node there yes in let o = g.long in omega arith

      cannot : cannot_have text names (later_below name_at node) (name_at node) ≡ (ltb 1 above || ltb max_book_bytes longer || is_taken names node)
      unfolding cannot_have
      cannot = reordered A B C D ∙ ap₂ (λ x y. x || y) (ap₂ (λ x y. x || y) given (ap (ltb max_book_bytes) (sym whole)))
          (sym (taken_at name_at c.nodes names (names_listed text words c) node there))
        where
          A : Bool
          A = any (same_but_case (name_at node ++ suffix)) names

          B : Bool
          B = any (same_but_case (name_at node ++ suffix)) (map (λ m. m ++ suffix) (later_below name_at node))

          C : Bool
          C = ltb 24 (length (name_at node ++ suffix))

          D : Bool
          D = ltb max_book_bytes (length (renamed (later_below name_at node ++ (name_at node ∷ [])) text))

          given : B ≡ ltb 1 above
          given = any_end_added (name_at node) (later_below name_at node)
              ∙ sym (given_at name_at c.nodes names (names_listed text words c) node there) ∙ sym found.given

          whole : longer ≡ length (renamed (later_below name_at node ++ (name_at node ∷ [])) text)
          whole = longer_is ∙ ap (λ l. length (renamed l text)) (later_more name_at node ∙ rw yes)

      module _ (stuck : Bool) (told : stuck ≡ (ltb 1 above || ltb max_book_bytes longer || is_taken names node)) where
        -- a later name that has its new one
        pub going_later : stuck ≡ false → Going text words c (node + 1) longer
        going_later e =
            let no = sym told ∙ e in
            let (most, _) = neither (ltb 1 above || ltb max_book_bytes longer) (is_taken names node) no in
            let (_, fits) = neither (ltb 1 above) (ltb max_book_bytes longer) most in
            record {
              inside = omega arith;
              free = free_later name_at text names node g.free yes (cannot ∙ no);
              long = longer_is;
              short = ltb-false max_book_bytes longer fits;
            }

        -- and one that cannot have it
        pub going_stuck : stuck ≡ true → (node < c.nodes) × (first_stuck text names [] (later_names [] names) ≡ just (get_or names node []))
        going_stuck e = (
          there,
          ap (λ l. first_stuck text names [] (later_names [] l)) (names_listed text words c)
              ∙ stuck_here name_at text names node g.free yes (cannot ∙ sym told ∙ e) c.nodes there
              ∙ ap just (sym (name_at_law name_at c.nodes names (names_listed text words c) node there)),
        )

  -- all have theirs
  pub going_over : (node size : ℕ) → Going text words c node size → c.nodes ≤ node
      → (first_stuck text names [] (later_names [] names) ≡ nothing) × (size ≡ length (renamed (later_names [] names) text))
  going_over node size g l =
      let e : node ≡ c.nodes = omega (arith, g.inside) in
      let all : later_below name_at node ≡ later_names [] names = ap (later_below name_at) e ∙ ap (later_names []) (sym (names_listed text words c)) in
      (ap (first_stuck text names []) (sym all) ∙ g.free, g.long ∙ ap (λ z. length (renamed z text)) all)
