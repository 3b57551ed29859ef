-- What is known after an entry more: its attribute is not declared, or it is declared and the entry is put.
use Prim.Native.Nat.{ℕ, ◌+◌, ◌-◌, ◌≤◌, ◌<◌}
use mathlib.Core.Path.{◌≡◌, refl, sym, ap, ◌∙◌}
use mathlib.Core.List.{List, [], ◌∷◌, ◌++◌, map}
use mathlib.Core.Bool.{Bool, true, false}
use native.Mathlib.Omega.{arith}
use lib.ListN.{take, drop, length-append}
use Rattle.std.specs.Prelude.{Some}
use Rattle.bits.specs.Word.{bit, with}
use Rattle.model.specs.Bytes.{Bytes}
use Rattle.model.specs.Names.{mem, place}
use Rattle.model.specs.Values.{Entry, of_kind}
use Rattle.model.specs.Book.{attr_names}
use Rattle.model.specs.ReadBook.{suits}
use Rattle.model.specs.Answers.{part_of, name_at, value_of}
use Rattle.model.specs.declared.Part.{Part}
use Rattle.model.specs.declared.Value.{Value}
use Rattle.book_tables.specs.declared.BookCounts.{BookCounts}
use Rattle.book_tables.specs.Layout.{types_behind}
use Rattle.book_tables.specs.View.{word_at, name_of, names_at, kind_in, attrs_at}
use Rattle.book_tables.proofs.AgreeLaws.{agree_same, name_kept, attrs_kept}
use Rattle.book_tables.proofs.NameLaws.{attr_names_law, place_named, place_mem, place_out}
use Rattle.book_tables.proofs.OwnerAdded.{agree_counted}
use Rattle.book_entries.specs.declared.EntriesRead.{EntriesRead}
use Rattle.book_entries.specs.Faults.{entries_fault, entry_fault, lower}
use Rattle.book_entries.specs.Known.{EntryAsked, EntriesKnown, EntryAdded, EntryPut, entry_read}
use Rattle.book_entries.proofs.FaultLaws.{fault_more, fault_undeclared, lower_none}
use Rattle.book_entries.proofs.SuitLaws.{suits_kind, seen_more, seen_same}
use Rattle.book_entries.proofs.PutLaws.{put_agrees, put_low, put_stored}

module _ (text : Bytes) (words : List ℕ) (c : BookCounts) (offset declared : ℕ) (name : Part) (value : Value) (known : EntriesRead)
    (asked : EntryAsked text words c offset declared name value known) (a : ℕ) (found : a ≡ place (name_at text name) (names_at text words offset declared)) where
  abbrev entry : Entry
  entry = entry_read text name value

  undeclared_mem : declared ≤ a → mem (name_at text name) (names_at text words offset declared) ≡ false
  undeclared_mem l = place_out text words offset declared (name_at text name) (rw (← found) l)

  pub entry_undeclared : declared ≤ a
      → EntryAdded text words words c offset declared name value known (record { fault = Some 4; seen = known.seen; count = known.count + 1 })
  entry_undeclared l = record {
    agrees = agree_same c words;
    counted = refl;
    after = λ es h. record {
      count = omega (arith, length-append es (entry ∷ []), h.count);
      fault = sym (fault_undeclared (attrs_at text words offset declared) es entry
          (ap (mem (name_at text name)) (attr_names_law text words offset declared) ∙ undeclared_mem l));
      seen = seen_same text words offset declared asked.table.names entry (undeclared_mem l) known.seen es h.seen;
      stored = λ z room. cc;
    };
  }

  module _ (l : a < declared) (words' : List ℕ) (put : EntryPut words (c.entries + known.count) a value words') (seen suited : Bool)
      (is_seen : seen ≡ bit known.seen a) (is-suited : suited ≡ of_kind (kind_in (word_at words (offset + types_behind + a))) (value_of text value)) where
    named : name_of text words offset a ≡ name_at text name
    named = rw found (place_named text words offset declared (name_at text name) (rw (← found) l))

    is_declared : mem (name_at text name) (attr_names (attrs_at text words offset declared)) ≡ true
    is_declared = ap (mem (name_at text name)) (attr_names_law text words offset declared) ∙ place_mem text words offset declared (name_at text name) (rw (← found) l)

    names_low : (i : ℕ) → i < declared → word_at words' (offset + i) ≡ word_at words (offset + i)
    names_low i m = let t = asked.table in put_low words words' (c.entries + known.count) a value put (offset + i) (omega arith)

    attrs_same : attrs_at text words' offset declared ≡ attrs_at text words offset declared
    attrs_same = attrs_kept text words words' offset declared names_low
        (λ i m. let t = asked.table in put_low words words' (c.entries + known.count) a value put (offset + types_behind + i) (omega arith))

    after_fault : (es : List Entry) → EntriesKnown text words c offset declared es known
        → lower known.fault (entry_fault true seen suited) ≡ entries_fault (attrs_at text words' offset declared) (es ++ (entry ∷ []))
    after_fault es h =
        let seen_mem : seen ≡ mem (name_at text name) (map (λ (x : Entry). x.attr) es) = is_seen ∙ h.seen a l
        ∙ ap (λ (w : Bytes). mem w (map (λ (x : Entry). x.attr) es)) named in
        let suited_is : suited ≡ suits (attrs_at text words offset declared) entry = is-suited
        ∙ sym (suits_kind text words offset declared asked.table.names a l entry named) in
        rw (attrs_same, fault_more (attrs_at text words offset declared) es entry, is_declared, ← seen_mem, ← suited_is, ← h.fault)

    pub entry_declared : EntryAdded text words words' c offset declared name value known
        (record { fault = lower known.fault (entry_fault true seen suited); seen = with known.seen a; count = known.count + 1 })
    entry_declared = record {
      agrees = agree_counted c known.count words words'
          (put_agrees words words' (c.entries + known.count) a value put c asked.fits.within known.count (omega arith));
      counted = refl;
      after = λ es h. record {
        count = omega (arith, length-append es (entry ∷ []), h.count);
        fault = after_fault es h;
        seen = λ b m. seen_more text words offset declared asked.table.names a l entry named known.seen es h.seen b m
            ∙ ap (λ (w : Bytes). mem w (map (λ (x : Entry). x.attr) (es ++ (entry ∷ [])))) (sym (name_kept text words words' offset declared names_low b m));
        stored = λ z room.
            let n = length-append es (entry ∷ []) in
            let q = h.count in
            put_stored words words' (c.entries + known.count) a value put text offset declared asked.table.low asked.fits.room (omega arith) l
            asked.table.few
            asked.value_inside entry named refl c asked.fits.within es (omega arith)
            (h.stored (lower_none known.fault (entry_fault true seen suited) z) (omega arith));
      };
    }

-- the part of the text that a name is
pub part_slice : (text : Bytes) (p : Part) → take (p.start + p.length - p.start) (drop p.start text) ≡ name_at text p
unfolding name_at part_of
part_slice text p = let e : p.start + p.length - p.start ≡ p.length = omega arith in rw e
