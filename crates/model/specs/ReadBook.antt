-- A book line by line: the faults of a line after the lines before, and the book with it. Which node names are taken for the same is a rule, `alike`: a
-- book is read by names that are equal but for case; the renaming reads by the very names.
use Rattle.std.specs.Prelude.{ℕ, ◌+◌, List, [], ◌∷◌, ◌++◌, map, Bool, not, ◌&&◌, ◌||◌, length, leb, ltb, eqb}
use Rattle.model.specs.Bytes.{Bytes, same}
use Rattle.model.specs.Choice.{Maybe, and_then}
use Rattle.model.specs.Lists.{any, all}
use Rattle.model.specs.Limits.{max_book_bytes, max_nodes, max_relationships, max_entries, max_declared}
use Rattle.model.specs.Names.{Name, mem, twice, place, same_but_case}
use Rattle.model.specs.Refusal.{Outcome, Row, lowest, ◌if◌}
use Rattle.model.specs.Lines.{Line, Step, fault_or, form_step, read_lines, lines_of, bytes_first}
use Rattle.model.specs.Values.{Entry, of_kind}
use Rattle.model.specs.Forms.{form_of}
use Rattle.model.specs.Book.{Attr, Book, empty_book, attr_names, node_names, entry_count}
use Rattle.model.specs.BookLines.{label, BookLine, vattr, eattr, node, rel, book_line}

-- an attribute of this name is declared with the type of this value
unfoldable pub suits : List Attr → Entry → Bool
suits ds e = any (λ d. same d.name e.attr && of_kind d.kind e.value) ds

-- an entry's attribute is not declared
unfoldable pub undeclared : List Attr → List Entry → Bool
undeclared ds es = any (λ e. not (mem e.attr (attr_names ds))) es

-- a label runs from one node to another already
unfoldable pub related : Book → Name → ℕ → ℕ → Bool
related b l x y = any (λ r. same r.label l && eqb r.from x && eqb r.to y) b.rels

-- the table of faults of a declared name: among names declared already
abbrev pub name_faults : Name → List Name → List Row
name_faults n ns = (5 if mem n ns) ∷ (7 if leb max_declared (length ns)) ∷ []

-- the lowest of them
unfoldable pub name_fault : Name → List Name → Maybe ℕ
name_fault n ns = lowest (name_faults n ns)

-- a rule: whether two node names are taken for the same
abbrev pub NamesAlike : Type 0
NamesAlike = Name → Name → Bool

-- the table of faults of a node line
abbrev pub node_faults : NamesAlike → Book → Name → List Entry → List Row
node_faults alike b n es =
    (4 if undeclared b.vattrs es)
    ∷ (5 if any (alike n) (node_names b) || twice (map (λ e. e.attr) es))
    ∷ (6 if not (all (suits b.vattrs) es))
    ∷ (7 if leb max_nodes (length b.nodes) || ltb max_entries (entry_count b + length es))
    ∷ []

-- the lowest of them
unfoldable pub node_fault : NamesAlike → Book → Name → List Entry → Maybe ℕ
node_fault alike b n es = lowest (node_faults alike b n es)

-- the table of faults of a rel line
abbrev pub rel_faults : Book → Name → Name → Name → List Entry → List Row
rel_faults b l x y es =
    (4 if not (mem l b.labels) || not (mem x (node_names b)) || not (mem y (node_names b)) || undeclared b.eattrs es)
    ∷ (5 if related b l (place x (node_names b)) (place y (node_names b)) || twice (map (λ e. e.attr) es))
    ∷ (6 if not (all (suits b.eattrs) es))
    ∷ (7 if leb max_relationships (length b.rels) || ltb max_entries (entry_count b + length es))
    ∷ []

-- the lowest of them
unfoldable pub rel_fault : Book → Name → Name → Name → List Entry → Maybe ℕ
rel_fault b l x y es = lowest (rel_faults b l x y es)

-- the lowest fault of a line after the lines before
unfoldable pub line_fault : NamesAlike → Book → BookLine → Maybe ℕ
line_fault alike b (vattr n k) = name_fault n (attr_names b.vattrs)
line_fault alike b (eattr n k) = name_fault n (attr_names b.eattrs)
line_fault alike b (label n) = name_fault n b.labels
line_fault alike b (node n es) = node_fault alike b n es
line_fault alike b (rel l x y es) = rel_fault b l x y es

-- the book with a line more
unfoldable pub add_line : Book → BookLine → Book
add_line b (vattr n k) = record {
  vattrs = b.vattrs
      ++ (record { name = n; kind = k } ∷ []);
  eattrs = b.eattrs;
  labels = b.labels;
  nodes = b.nodes;
  rels = b.rels;
}
add_line b (eattr n k) = record {
  vattrs = b.vattrs;
  eattrs = b.eattrs
      ++ (record { name = n; kind = k } ∷ []);
  labels = b.labels;
  nodes = b.nodes;
  rels = b.rels;
}
add_line b (label n) = record { vattrs = b.vattrs; eattrs = b.eattrs; labels = b.labels ++ (n ∷ []); nodes = b.nodes; rels = b.rels }
add_line b (node n es) = record {
  vattrs = b.vattrs;
  eattrs = b.eattrs;
  labels = b.labels;
  nodes = b.nodes
      ++ (record { name = n; entries = es } ∷ []);
  rels = b.rels;
}
add_line b (rel l x y es) =
    record {
      vattrs = b.vattrs;
      eattrs = b.eattrs;
      labels = b.labels;
      nodes = b.nodes;
      rels = b.rels ++ (record { label = l; from = place x (node_names b); to = place y (node_names b); entries = es } ∷ []);
    }

-- one line of the book
unfoldable pub book_step : NamesAlike → Book → Line → Step Book
book_step alike b l = form_step (and_then (form_of l) book_line) (λ x. fault_or (line_fault alike b x) (add_line b x))

-- text 1, by a rule for node names
unfoldable pub read_book_by : NamesAlike → Bytes → Outcome Book
read_book_by alike s = let book = read_lines 1 (book_step alike) 1 empty_book (lines_of s) in bytes_first 1 max_book_bytes (λ l. l) s book

-- text 1: a node name that is equal to an earlier one but for case is declared a second time
unfoldable pub read_book : Bytes → Outcome Book
read_book s = read_book_by same_but_case s
