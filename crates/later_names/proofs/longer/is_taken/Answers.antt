-- `later_names::longer::is_taken` meets its contract.
use mathlib.Core.Path.{sym, ap, ◌∙◌}
use lib.ListN.{length, length-append}
use Rattle.model.specs.Renaming.{suffix}
use Rattle.later_names.proofs.StuckLaws.{too_long_law, found_taken}
use Rattle.later_names.proofs.longer.is_taken.Goals as goal

pub node_name-name-requires : goal.node_name-name-requires
node_name-name-requires c = record { counts = c.args.counts; fits = c.requires.0; counted = c.requires.1 }

pub returns-then-size-gt-MAX_WORD_BYTES : goal.returns-then-size-gt-MAX_WORD_BYTES
returns-then-size-gt-MAX_WORD_BYTES c =
    too_long_law _ c.args.node _ (c.node_name-name.ensures c.args.counts c.requires.1) c.if-size-gt-MAX_WORD_BYTES.true

pub slice_bounds-find_alike-end : goal.slice_bounds-find_alike-end
slice_bounds-find_alike-end c =
    let name = c.node_name-name.result.now in
    sym (ap length c.with_suffix-longer.ensures ∙ length-append name suffix)

pub returns : goal.returns
returns c =
    let a = c.args in
    found_taken a.text.now a.words.now a.counts a.node _ _ _ (c.node_name-name.ensures a.counts c.requires.1) c.if-size-gt-MAX_WORD_BYTES.false
    c.with_suffix-longer.ensures c.find_alike.ensures
