-- What unfolds where a closed text is computed: to unfold `computing` is to unfold every definition of the model.
-- Nothing to believe: this file defines nothing of the paper.
use Rattle.std.specs.Prelude.{ℕ}
use Rattle.model.specs.Choice.{and_then}
use Rattle.model.specs.Bytes.{same}
use Rattle.model.specs.Lists.{is_nil, any, all, keep, each, joined, sum, memℕ, up_to, place_where, add_new_by, firsts_by}
use Rattle.model.specs.Names.{mem, twice, place, lowered, same_but_case}
use Rattle.model.specs.Words.{between, is_letter, is_digit, is_word_byte, run, before, word_at, biased, decimal, plain_digits, is_whole, digits_at}
use Rattle.model.specs.Words.{whole_at, is_text, text_at, quoted_at, read_as}
use Rattle.model.specs.Items.{plain_at, is_list, onward, onward_with, list_at, as_list, opens, item_at, item_list, items_of, line_items}
use Rattle.model.specs.Refusal.{on_accept, refusal, refused_if, lowest}
use Rattle.model.specs.Lines.{is_allowed, bad_line, add_byte, lines_of, fault_or, form_step, step_then, read_lines, refused_at, bytes_first}
use Rattle.model.specs.Forms.{as_word, as_quoted, never_names, name_of, as_name, truth_of, as_value, kind_of, first, at_end, entry_of, form_of}
use Rattle.model.specs.Book.{empty_book, attr_names, node_names, entry_count}
use Rattle.model.specs.BookLines.{attr_line, label_line, node_line, rel_line, book_line}
use Rattle.model.specs.Values.{of_kind}
use Rattle.model.specs.ReadBook.{suits, undeclared, related, name_fault, node_fault, rel_fault, line_fault, add_line, book_step}
use Rattle.model.specs.ReadBook.{read_book_by, read_book}
use Rattle.model.specs.Renaming.{later_names, before_word, first_word, behind_word, after_word, node_words, pieces_of, line_pieces, text_pieces, piece_bytes}
use Rattle.model.specs.Renaming.{old_bytes, renamed, cannot_have, first_stuck, declares_node, declared_at, unless_stuck, renamed_book, new_name, new_node}
use Rattle.model.specs.Renaming.{with_new_names}
use Rattle.model.specs.Tidy.{kind_text, list_text, entry_text, item_texts, line_text, entry_if, in_order, tidy_node, tidy_rel, tidied, attr_line_of, node_line_of}
use Rattle.model.specs.Tidy.{rel_line_of, lines_by_kind, tidy_text, tidy_book}
use Rattle.model.specs.Signs.{marks, begins, mark_at, or_broken, digit_next, sign_at, is_word, is_mark, wordy, chain_behind, signs, signs_of, sign_name}
use Rattle.model.specs.Signs.{sign_value, next, expect}
use Rattle.model.specs.Grammar.{spot_after, sign_relation, vertex_at, start_at, link_at, condition_at, return_at, piece_at, ends_at, pieces, tail_of, query_text}
use Rattle.model.specs.Query.{hd, chain_vertices, chain_edges, vertex_names, edges_of, edge_names, conditions_of}
use Rattle.model.specs.ReadQuery.{scoped, unknown, has_relation, typed, mistyped, is_differ, from_itself, has_undeclared, has_twice, has_mistyped}
use Rattle.model.specs.ReadQuery.{too_many, has_from_itself, query_fault, text_or_fault, read_query}
use Rattle.model.specs.Pattern.{clause_of, edge_of, pattern_of}
use Rattle.model.specs.Writing.{each_behind, join_by, digits, whole_text, value_text, relation_text, vertex_name, edge_name, demand_text, clause_text}
use Rattle.model.specs.Writing.{edge_text, written_query}
use Rattle.model.specs.Rules.{category_names, actors_of, step_down, steps_down, down_from, enforced}
use Rattle.model.specs.ReadRules.{names_after, category_line, policy_line, rules_line, lacks_actor, has_policy, rules_fault, add_rule, rules_step}
use Rattle.model.specs.ReadRules.{covered, read_rules}
use Rattle.model.specs.Request.{claim_of, request_line, request_fault, request_of, request_step, one_line, read_request}
use Rattle.model.specs.TextOrder.{byte_order, by_order}
use Rattle.model.specs.Graph.{node_entries, rel_of, rel_entries, runs, value_in, compares, same_or_not, in_relation, meets, looked_at, is_node, is_rel}
use Rattle.model.specs.Models.{edge_holds, chain_holds, entries_of, condition_holds, models, is_on, met_by, suits_edge, rel_for, mapping_of}
use Rattle.model.specs.Satisfies.{edge_at, numbered_edge_holds, clause_holds, satisfies}
use Rattle.model.specs.Weave.{asked_query, asked_policies, named, moved, moved_edge, moved_clause, moved_clauses, returns_of, weave, is_excluded}
use Rattle.model.specs.Weave.{woven_too_many, with_identity, step_along, steps_along, tied, woven_fault, same_vertex, place_vertex, weave_vertex}
use Rattle.model.specs.Weave.{identified_by}
use Rattle.model.specs.Rows.{nodes_for, some_choice, actor_nodes, all_have, row_given, may_have, tuples, rows_of}
use Rattle.model.specs.Service.{ones, with_work, book_service, rules_service, query_service, request_service, writer_text, onto, writer_service, book_written}
use Rattle.model.specs.Service.{book_writer, rename_service, tidy_service}
use Rattle.model.specs.Service.{rows_asked, list_found, list_rows, row_words, list_service, lamp_service}
use Rattle.model.specs.Printed.{row_text, refusal_text, rows_text, outcome_text, names_of, printed, lamp_text, printed_lamp, book_text}
use Rattle.model.specs.Printed.{book_printed, printed_renaming, printed_tidy}
use Rattle.model.specs.MayHave.{is_actor}
use Rattle.model.specs.RequestPlaces.{words_from, placed_by, identity_places, slots}
use Rattle.model.specs.RequestAnswer.{told_request, request_read}
use Rattle.model.specs.Answers.{refusal_data, part_of, name_at, book_of}
use Rattle.model.specs.Places.{placed, bracket_of, variable_at, standing_at, standings, standing_in, vertex_part, edge_part, value_part, add_part}
use Rattle.model.specs.Places.{first_parts, vertex_parts, edge_parts, value_parts}
use Rattle.model.specs.WholeAnswers.{padded, first_part, relation_data, value_data, behind_value, clause_data, behind_clause, clauses_data, edge_data}
use Rattle.model.specs.WholeAnswers.{edges_data, query_data, query_outcome, query_read}

-- naming this one unfolds all of them
unfoldable pub computing : ℕ
unfolding and_then same is_nil any all keep each joined sum mem memℕ twice place add_new_by firsts_by up_to between is_letter is_digit is_word_byte run before word_at
    biased decimal plain_digits is_whole digits_at whole_at is_text text_at quoted_at read_as plain_at is_list onward onward_with list_at as_list opens item_at item_list
    items_of line_items on_accept refusal refused_if lowest is_allowed bad_line add_byte lines_of fault_or form_step step_then read_lines refused_at bytes_first as_word
    as_quoted never_names name_of as_name truth_of as_value kind_of first at_end entry_of form_of empty_book attr_names node_names entry_count attr_line label_line
    node_line rel_line book_line of_kind suits undeclared related name_fault node_fault rel_fault line_fault add_line book_step read_book marks begins mark_at or_broken
    digit_next sign_at is_word is_mark wordy chain_behind signs signs_of sign_name sign_value next expect spot_after sign_relation vertex_at start_at link_at
    condition_at return_at piece_at ends_at pieces tail_of query_text hd chain_vertices chain_edges vertex_names edges_of edge_names conditions_of scoped unknown
    has_relation typed mistyped is_differ from_itself has_undeclared has_twice has_mistyped too_many has_from_itself query_fault text_or_fault read_query clause_of
    edge_of pattern_of each_behind join_by digits whole_text value_text relation_text vertex_name edge_name demand_text clause_text edge_text written_query
    category_names names_after category_line policy_line rules_line lacks_actor has_policy rules_fault add_rule rules_step covered read_rules actors_of step_down
    steps_down down_from enforced claim_of request_line request_fault request_of request_step one_line read_request place_where node_entries rel_of rel_entries runs
    is_rel value_in compares same_or_not in_relation meets is_node edge_holds chain_holds entries_of condition_holds models is_on met_by suits_edge rel_for mapping_of
    edge_at numbered_edge_holds clause_holds satisfies asked_query asked_policies same_vertex place_vertex weave_vertex named moved moved_edge moved_clause
    moved_clauses returns_of weave is_excluded woven_too_many identified_by with_identity step_along steps_along tied woven_fault is_actor nodes_for some_choice
    actor_nodes all_have row_given may_have tuples rows_of ones with_work book_service rules_service query_service request_service writer_text onto writer_service
    list_found list_rows row_words list_service row_text refusal_text rows_text outcome_text names_of printed words_from placed_by identity_places slots refusal_data
    told_request request_read part_of name_at book_of placed bracket_of variable_at standing_at standings standing_in vertex_part edge_part value_part add_part
    first_parts vertex_parts edge_parts value_parts padded first_part relation_data value_data behind_value clause_data behind_clause clauses_data edge_data edges_data
    query_data query_outcome query_read lowered same_but_case read_book_by later_names before_word first_word behind_word after_word node_words pieces_of line_pieces
    text_pieces piece_bytes old_bytes renamed cannot_have first_stuck declares_node declared_at unless_stuck renamed_book new_name new_node with_new_names book_written
    book_writer rename_service book_text printed_renaming rows_asked lamp_service lamp_text printed_lamp byte_order by_order
    kind_text list_text entry_text item_texts line_text entry_if in_order tidy_node tidy_rel tidied attr_line_of node_line_of rel_line_of lines_by_kind tidy_text tidy_book
    tidy_service book_printed printed_tidy looked_at
computing = 0
