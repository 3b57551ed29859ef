-- `add_pattern` meets its contract: vertices first, then each limit, then the rest. Assumes nothing.
use Rattle.weave.proofs.OneText.{passed_by_vertices, passed_by_edges, passed_by_exclusions, passed_by_requirements, number_low, text_woven}
use Rattle.woven_tables.specs.Tables.{actors_at}
use native.Mathlib.Omega.{arith}
use mathlib.Core.Path.{◌∙◌}
use Rattle.weave.proofs.add_pattern.Goals as goal

pub add_vertices-numbered-requires : goal.add_vertices-numbered-requires
add_vertices-numbered-requires c =
    let given = c.requires in (
      record { few_texts = given.few_texts; few = given.fits.few_vertices; fit = given.fits.vertices },
      given.few_actors,
      given.kept.vertices,
      given.kept.room,
      record { actors = given.known_actors; woven = given.kept.names; own = λ i l. omega (arith, given.stands, given.parts.vertices i l) },
    )

pub returns-then-numbered-gt-MAX_WOVEN_VERTICES : goal.returns-then-numbered-gt-MAX_WOVEN_VERTICES
returns-then-numbered-gt-MAX_WOVEN_VERTICES c =
    let a = c.args in
    passed_by_vertices a.query.now a.rules.now (actors_at a.rules.now a.actors.now a.actor_count) a.k a.base a.pattern
    a.words.now a.counts (c.add_vertices-numbered.ensures.passed c.if-numbered-gt-MAX_WOVEN_VERTICES.true)

pub overflow_add-requirement_sum : goal.overflow_add-requirement_sum
overflow_add-requirement_sum c =
    omega (arith, c.requires.kept.requirements, c.requires.fits.few_clauses, c.count_exclusions-exclusions.ensures.some)

pub returns-then-edge_sum-gt-MAX_WOVEN_EDGES : goal.returns-then-edge_sum-gt-MAX_WOVEN_EDGES
returns-then-edge_sum-gt-MAX_WOVEN_EDGES c =
    let a = c.args in
    passed_by_edges a.query.now a.rules.now (actors_at a.rules.now a.actors.now a.actor_count) a.k a.base a.pattern
    a.words.now a.counts
    c.well_formed.1.1.1.1.1.1.0.1.1.1.0.1.0.1 c.requires.fits.few_edges c.if-edge_sum-gt-MAX_WOVEN_EDGES.true

pub returns-then-exclusion_sum-gt-MAX_WOVEN_EXCLUSIONS : goal.returns-then-exclusion_sum-gt-MAX_WOVEN_EXCLUSIONS
returns-then-exclusion_sum-gt-MAX_WOVEN_EXCLUSIONS c =
    let a = c.args in
    passed_by_exclusions a.query.now a.rules.now (actors_at a.rules.now a.actors.now a.actor_count) a.k a.base a.pattern
    a.words.now a.counts c.count_exclusions-exclusions.result c.count_exclusions-exclusions.ensures c.requires.kept
    c.if-exclusion_sum-gt-MAX_WOVEN_EXCLUSIONS.true

pub returns-then-requirement_sum-gt-MAX_WOVEN_REQUIREMENTS : goal.returns-then-requirement_sum-gt-MAX_WOVEN_REQUIREMENTS
returns-then-requirement_sum-gt-MAX_WOVEN_REQUIREMENTS c =
    let a = c.args in
    passed_by_requirements a.query.now a.rules.now (actors_at a.rules.now a.actors.now a.actor_count) a.k a.base a.pattern
    a.words.now a.counts c.count_exclusions-exclusions.result c.count_exclusions-exclusions.ensures c.requires.kept
    c.if-requirement_sum-gt-MAX_WOVEN_REQUIREMENTS.true

pub add_rest-returns-requires : goal.add_rest-returns-requires
add_rest-returns-requires c =
    let a = c.args in (
      record {
        few_texts = c.requires.few_texts;
        fits = c.requires.fits;
        numbers_low = number_low a.query.now a.rules.now (actors_at a.rules.now a.actors.now a.actor_count) a.k a.base a.pattern
            a.words.now c.add_vertices-numbered.new.words a.counts c.add_vertices-numbered.result
            c.requires.fits c.if-numbered-gt-MAX_WOVEN_VERTICES.false c.add_vertices-numbered.ensures;
        few_returns = c.requires.kept.returns;
        room_edges = c.if-edge_sum-gt-MAX_WOVEN_EDGES.false;
        room_clauses = omega (arith, c.if-exclusion_sum-gt-MAX_WOVEN_EXCLUSIONS.false, c.if-requirement_sum-gt-MAX_WOVEN_REQUIREMENTS.false, c.count_exclusions-exclusions.ensures.some);
      },
      omega (arith, c.requires.kept.room, c.add_vertices-numbered.auto.words),
    )

pub returns : goal.returns
returns c =
    let a = c.args in
    text_woven a.query.now a.rules.now (actors_at a.rules.now a.actors.now a.actor_count) a.k a.base a.pattern a.words.now
    c.add_vertices-numbered.new.words a.counts c.add_vertices-numbered.result c.requires.fits
    c.if-numbered-gt-MAX_WOVEN_VERTICES.false c.add_vertices-numbered.ensures
    c.add_rest-returns.new.words c.add_rest-returns.result c.count_exclusions-exclusions.result
    c.add_rest-returns.ensures c.count_exclusions-exclusions.ensures c.requires.kept
    c.requires.size c.requires.stands c.requires.parts
    (omega (arith, c.requires.kept.room, c.add_vertices-numbered.auto.words, c.add_rest-returns.auto.words))
    c.if-edge_sum-gt-MAX_WOVEN_EDGES.false c.if-exclusion_sum-gt-MAX_WOVEN_EXCLUSIONS.false c.if-requirement_sum-gt-MAX_WOVEN_REQUIREMENTS.false

pub shape_of-words-then-numbered-gt-MAX_WOVEN_VERTICES : goal.shape_of-words-then-numbered-gt-MAX_WOVEN_VERTICES
shape_of-words-then-numbered-gt-MAX_WOVEN_VERTICES c = c.add_vertices-numbered.auto.words

pub count_exclusions-exclusions-requires : goal.count_exclusions-exclusions-requires
count_exclusions-exclusions-requires c = c.requires.fits.few_clauses

pub overflow_add-edge_sum : goal.overflow_add-edge_sum
overflow_add-edge_sum c = let p = c.requires in
    omega (arith, p.kept.edges, p.fits.few_edges)

pub overflow_add-exclusion_sum : goal.overflow_add-exclusion_sum
overflow_add-exclusion_sum c = let p = c.requires in
    omega (arith, p.kept.exclusions, p.fits.few_clauses, c.count_exclusions-exclusions.ensures.some)

pub overflow_sub-requirement_sum : goal.overflow_sub-requirement_sum
overflow_sub-requirement_sum c = omega (arith, c.count_exclusions-exclusions.ensures.some)

pub shape_of-words-then-edge_sum-gt-MAX_WOVEN_EDGES : goal.shape_of-words-then-edge_sum-gt-MAX_WOVEN_EDGES
shape_of-words-then-edge_sum-gt-MAX_WOVEN_EDGES c = c.add_vertices-numbered.auto.words

pub shape_of-words-then-exclusion_sum-gt-MAX_WOVEN_EXCLUSIONS : goal.shape_of-words-then-exclusion_sum-gt-MAX_WOVEN_EXCLUSIONS
shape_of-words-then-exclusion_sum-gt-MAX_WOVEN_EXCLUSIONS c = c.add_vertices-numbered.auto.words

pub shape_of-words-then-requirement_sum-gt-MAX_WOVEN_REQUIREMENTS : goal.shape_of-words-then-requirement_sum-gt-MAX_WOVEN_REQUIREMENTS
shape_of-words-then-requirement_sum-gt-MAX_WOVEN_REQUIREMENTS c = c.add_vertices-numbered.auto.words

pub shape_of-words : goal.shape_of-words
shape_of-words c = c.add_rest-returns.auto.words ∙ c.add_vertices-numbered.auto.words
