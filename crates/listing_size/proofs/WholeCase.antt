-- THE WHOLE CASE of document 01 lists as it says there, and the other worked books as they stand in specs/Worked.antt.
use mathlib.Core.Path.{refl}
use Rattle.number.specs.Number.{digit_of, below, places, value_in, plain, decimal_of, hex_of}
use Rattle.words.specs.Same.{eqbs}
use Rattle.words.specs.Word.{lookup, word_of}
use Rattle.line.specs.Text.{onto, parts}
use Rattle.line.specs.Line.{printable, is_label, kind_of, rule_kind, rule_line, atom_line, bound_line, step_line, states_line, width_line, slot_line, content, of_fields, parse}
use Rattle.book.specs.Book.{opening, stands, opens, last_of, within, first_fault, fault, bump, spend, add, read_on, ended, read}
use Rattle.formula.specs.Tree.{size, depth, all, push, forest, tree_of}
use Rattle.formula.specs.Spells.{run}
use Rattle.formula.specs.Formula.{node}
use Rattle.formula.specs.Table.{node_at, rule_of}
use Rattle.formula.specs.Pure.{pure, value}
use Rattle.formula.specs.Text.{signs_by}
use Rattle.alike.specs.Text.{agree}
use Rattle.monitor.specs.Compile as compile
use Rattle.monitor.specs.Mon.{count}
use Rattle.plan.specs.Book.{bits_below}
use Rattle.plan.specs.Layout.{pieces, total}
use Rattle.plan.specs.Width.{first_power, ceil_log2}
use Rattle.encoding.specs.Encoding.{slot_bits, encoding_of}
use Rattle.alike.specs.Alike.{alike_mon}
use Rattle.liveness.specs.Split as split
use Rattle.liveness.specs.Text.{skeleton_text}
use Rattle.meaning.specs.Alarm.{truth}
use Rattle.meaning.specs.State.{unfailed_step, obligation_step, check_step, joined_step, step}
use Rattle.number.specs.Digits.{digits}
use Rattle.text.specs.Tape.{joined, signed}
use Rattle.spelling.specs.Spelling.{spelled}
use Rattle.listing_line.specs.Line.{line}
use Rattle.listing_line.specs.Node.{node_lines}
use Rattle.listing_line.specs.Rule as lines
use Rattle.listing_line.specs.Plan.{plan_line}
use Rattle.listing_live.specs.Live.{marks_text, live_line, owe_line, owe_lines}
use Rattle.listing_rules.specs.Rules.{compiles, refusal, mon, first_bit_of, like_of, first_below, compiling_of, encoding_for}
use Rattle.listing_head.specs.Head.{upto, nodes_text, live_text, owes_text, rule_text, rules_text}
use Rattle.listing_reports.specs.Reports.{breaks, report_of, reports_at, reports, end_count}
use Rattle.listing_reports.specs.Tail.{report_line, report_lines, end_line, refused_line}
use Rattle.listing_text.specs.Listing.{rules_listing, rule_at, listing}
use Rattle.listing_size.specs.Worked.{Lists, AllList, whole, others}

pub whole_case : Lists whole
unfolding digit_of below places value_in plain decimal_of hex_of onto parts eqbs lookup word_of printable is_label kind_of rule_kind rule_line atom_line bound_line step_line states_line width_line slot_line content of_fields parse opening stands opens last_of within first_fault fault bump spend add read_on ended read size depth all push forest tree_of run node node_at rule_of pure value signs_by compile.faults compile.consequent compile.node compile.implication bits_below pieces total first_power ceil_log2 slot_bits encoding_of split.live truth unfailed_step obligation_step check_step step digits joined signed spelled line node_lines lines.rule_line live_line owe_lines compiles mon first_bit_of first_below compiling_of encoding_for plan_line upto nodes_text live_text owes_text rule_text rules_text breaks report_of reports_at reports end_count report_line report_lines end_line rules_listing rule_at listing
whole_case = refl

pub worked_listings : AllList others
unfolding digit_of below places value_in plain decimal_of hex_of onto parts eqbs lookup word_of printable is_label kind_of rule_kind rule_line atom_line bound_line step_line states_line width_line slot_line content of_fields parse opening stands opens last_of within first_fault fault bump spend add read_on ended read size depth all push forest tree_of run node node_at rule_of pure value signs_by compile.faults compile.consequent compile.node compile.implication bits_below pieces total first_power ceil_log2 slot_bits encoding_of split.live truth unfailed_step obligation_step check_step step digits joined signed spelled line node_lines lines.rule_line live_line owe_lines compiles mon first_bit_of first_below compiling_of encoding_for plan_line upto nodes_text live_text owes_text rule_text rules_text breaks report_of reports_at reports end_count report_line report_lines end_line rules_listing rule_at listing agree count alike_mon split.faults split.skeleton_of split.obligations_of skeleton_text joined_step marks_text owe_line refusal like_of refused_line
worked_listings = (refl, (refl, (refl, (refl, (refl, (refl, (refl, (refl, tt))))))))
