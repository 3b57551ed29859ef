-- What weaving the asked texts may take for granted.
use Rattle.std.specs.Prelude.{ℕ, ◌+◌, ◌<◌, ◌≤◌, ◌≡◌, List, length}
use Rattle.model.specs.Bytes.{Bytes}
use Rattle.model.specs.Refusal.{accepted}
use Rattle.model.specs.Book.{Book}
use Rattle.model.specs.ReadQuery.{read_query}
use Rattle.model.specs.ReadRules.{read_rules}
use Rattle.model.specs.Weave.{weave}
use Rattle.book_tables.specs.declared.BookCounts.{BookCounts}
use Rattle.book_tables.specs.View.{book_at, word_at}
use Rattle.book_tables.specs.Fits.{NamesFit, Fits}
use Rattle.rules_tables.specs.declared.RulesCounts.{RulesCounts}
use Rattle.rules_tables.specs.Layout.{actor_count_at, actors_from}
use Rattle.rules_tables.specs.View.{tree_of, rules_at}
use Rattle.rules_tables.specs.Fits.{Fits as RulesFit}
use Rattle.woven_tables.specs.declared.WovenCounts.{WovenCounts}
use Rattle.woven_tables.specs.Tables.{text_of, woven_at, woven_words}
use Rattle.weave.specs.Adding.{Kept}
use Rattle.weave.specs.Identities.{IdentitiesReady}
use Rattle.enforce.specs.declared.TextPlace.{TextPlace}
use Rattle.query.specs.PatternRead.{PatternAsked}
use Rattle.prepare.specs.declared.Ready.{Ready}
use Rattle.enforce.specs.Texts.{texts_below}
use Rattle.enforce.specs.OneNamed.{Declared}

-- book and rules are in their words, and rules and query are accepted
pub record TextsClear (book : Bytes) (words : List ℕ) (k : BookCounts) (query rules : Bytes) (rules_words : List ℕ) (rc : RulesCounts)
    (category : ℕ) : Type 0 where
  pub fits : Fits book words k
  pub rules_fit : RulesFit rules rules_words rc
  pub rules_read : read_rules (book_at book words k) rules ≡ accepted (rules_at rules rules_words rc)
  pub query_read : read_query (book_at book words k) query ≡ accepted (tree_of query)
  pub counted : category < rc.categories

-- what weaving all texts for a request that is ready asks
pub record AskedReady (book : Bytes) (words : List ℕ) (query rules : Bytes) (rules_words : List ℕ) (request : Bytes) (r : Ready) : Type 0 where
  pub texts : TextsClear book words r.book query rules rules_words r.rules r.request.category
  pub identified : IdentitiesReady request r.request.identities r.request.count

-- what weaving one text asks
pub record TextReady (book : Bytes) (words : List ℕ) (k : BookCounts) (text query rules : Bytes) (rules_words : List ℕ) (t : TextPlace) (woven : List ℕ)
    (c : WovenCounts) : Type 0 where
  pub asked : PatternAsked book words k text
  pub short : t.base + length text ≤ 65536
  pub stands : t.base + length text ≤ length (text_of query rules t.number)
  pub room : woven_words ≤ length rules_words
  pub low : t.category < 16
  pub few_actors : word_at rules_words (actor_count_at t.category) ≤ 8
  pub actors : NamesFit rules rules_words (actors_from t.category) (word_at rules_words (actor_count_at t.category))
  pub kept : Kept query rules woven c
  pub few_texts : t.number < 32

-- the words hold the woven pattern of the query and the enforced policies of the categories below m
pub record Held (b : Book) (k : BookCounts) (query rules : Bytes) (rules_words : List ℕ) (rc : RulesCounts) (category m : ℕ) (woven : List ℕ)
    (c : WovenCounts) : Type 0 where
  pub kept : Kept query rules woven c
  pub held : woven_at b query rules woven c ≡ weave (texts_below query rules rules_words rc category m)
  pub declared : Declared k query rules woven c

-- what weaving the policies asks: the query is woven
pub record PoliciesReady (book : Bytes) (words : List ℕ) (k : BookCounts) (query rules : Bytes) (rules_words : List ℕ) (rc : RulesCounts) (category : ℕ)
    (woven : List ℕ) (c : WovenCounts) : Type 0 where
  pub texts : TextsClear book words k query rules rules_words rc category
  pub held : Held (book_at book words k) k query rules rules_words rc category 0 woven c

-- what weaving the policy of category m asks: those of the categories below are woven, so many texts with the query
pub record CategoryReady (book : Bytes) (words : List ℕ) (k : BookCounts) (query rules : Bytes) (rules_words : List ℕ) (rc : RulesCounts)
    (category m count : ℕ) (woven : List ℕ) (c : WovenCounts) : Type 0 where
  pub texts : TextsClear book words k query rules rules_words rc category
  pub low : m < rc.categories
  pub many : count ≡ length (texts_below query rules rules_words rc category m)
  pub held : Held (book_at book words k) k query rules rules_words rc category m woven c
