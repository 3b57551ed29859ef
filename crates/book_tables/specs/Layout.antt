-- Where each table of the book stands in the words; the numbers are those of the constants in src.
use Rattle.std.specs.Prelude.{ℕ}

-- declared attributes of nodes and of relationships: 32 names, then the types of the 32
abbrev pub vattr_names : ℕ
vattr_names = 0

abbrev pub eattr_names : ℕ
eattr_names = 64

-- how far behind its name an attribute's type stands
abbrev pub types_behind : ℕ
types_behind = 32

-- 32 labels
abbrev pub label_names : ℕ
label_names = 128

-- 256 nodes: their names, and which entries are theirs
abbrev pub node_names : ℕ
node_names = 160

abbrev pub node_entries : ℕ
node_entries = 416

-- 1,024 relationships, and which entries are theirs
abbrev pub relationships : ℕ
relationships = 672

abbrev pub relationship_entries : ℕ
relationship_entries = 1696

-- 2,048 attribute entries of three words
abbrev pub entries : ℕ
entries = 2720

-- the chains of the nodes by the slots of their names: 256 heads, and a link for each node
abbrev pub node_heads : ℕ
node_heads = 8864

abbrev pub node_links : ℕ
node_links = 9120

-- the chains of the relationships by the node that they leave: 256 heads, and a link for each relationship
abbrev pub from_heads : ℕ
from_heads = 9376

abbrev pub from_links : ℕ
from_links = 9632

-- how many keys the chains of either kind have
abbrev pub keys : ℕ
keys = 256

-- all tables and chains together
abbrev pub book_words : ℕ
book_words = 10752
