-- THE SIZE OF A LISTING. The listing of any text, a book or not, fits in `listing_room` bytes.
--     listing_most    a sharper bound: 211 bytes a rule, 104 a formula node, 110 for `plan`, 71 a report, 25 for the last line
use mathlib.Core.Path.{◌≡◌, refl, ap}
use mathlib.Core.List.{List, [], ◌∷◌, ◌++◌}
use Prim.Native.Nat.{ℕ, zero, suc, ◌+◌, ◌*◌, ◌≤◌, ◌<◌}
use native.Mathlib.Omega.{arith}
use native.Mathlib.Numerals.{add-one}
use lib.ListN.{length, get_or, length-append}
use Rattle.encoding.specs.Encoding.{monitors_base}
use Rattle.encoding.specs.declared.ConfigEncoding.{ConfigEncoding}
use Rattle.book.specs.Book.{Book, count_in, Outcome, accepted, refused, read}
use Rattle.number.specs.Digits.{decimal}
use Rattle.text.specs.Tape.{signed}
use Rattle.listing_line.specs.Plan.{plan_word, plan_line}
use Rattle.listing_rules.specs.Rules.{encoding_for}
use Rattle.listing_head.specs.Head.{upto, rule_text, rules_text}
use Rattle.listing_reports.specs.Reports.{fresh_states, Report, book_reports, kinds_of, end_count}
use Rattle.listing_reports.specs.Tail.{report_word, report_line, report_lines, end_line, refused_line}
use Rattle.listing_text.specs.Listing.{rules_listing, rule_at, listing_of, listing}
use Rattle.listing_size.specs.Room.{listing_room}
use Rattle.listing_size.proofs.BookRules.{few_rules, few_nodes, book_size, book_label, book_next, book_inside}
use Rattle.listing_size.proofs.TextSizes.{decimal_short, signed_short, line_long}
use Rattle.listing_size.proofs.RuleSizes.{rule_text_short}
use Rattle.listing_size.proofs.ReportOnce.{report_once}

-- ---- the lines of the first n rules
sum : (ℕ → ℕ) → ℕ → ℕ
sum s zero = 0
sum s (suc r) = sum s r + s r

upto_short : (f : ℕ → List ℕ) (s : ℕ → ℕ) (n : ℕ) → ((r : ℕ) → r < n → length (f r) ≤ 211 + 104 * s r) → length (upto f n) ≤ 211 * n + 104 * sum s n
unfolding upto sum
upto_short f s zero h = omega arith
upto_short f s (suc r) h = omega (arith, length-append (upto f r) (f r), upto_short f s r (λ q k. h q (omega arith)), h r (omega arith))

-- ---- reports
report_short : (p : Report) → length (report_line p) ≤ 71
unfolding report_line
report_short p = omega (
  arith,
  line_long report_word (decimal p.at.number ∷ decimal p.rule ∷ signed p.culprit ∷ []),
  decimal_short p.at.number,
  decimal_short p.rule,
  signed_short p.culprit,
)

reports_short : (ps : List Report) → length (report_lines ps) ≤ 71 * length ps
unfolding report_lines
reports_short [] = omega arith
reports_short (p ∷ ps) = omega (arith, length-append (report_line p) (report_lines ps), report_short p, reports_short ps)

end_short : (n : ℕ) → length (end_line n) ≤ 25
unfolding end_line
end_short n = omega (arith, line_long (101 ∷ 110 ∷ 100 ∷ []) (decimal n ∷ []), decimal_short n)

plan_short : (e : ConfigEncoding) → length (plan_line e) ≤ 110
unfolding plan_line
plan_short e = omega (
  arith,
  line_long plan_word (decimal e.state_bits ∷ decimal e.vars_bits ∷ decimal e.monitors_bits ∷ decimal e.total_bits ∷ decimal e.total_bytes ∷ []),
  decimal_short e.state_bits,
  decimal_short e.vars_bits,
  decimal_short e.monitors_bits,
  decimal_short e.total_bits,
  decimal_short e.total_bytes,
)

refused_short : (n k : ℕ) → length (refused_line n k) ≤ 50
unfolding refused_line
refused_short n k = omega (arith, line_long (114 ∷ 101 ∷ 102 ∷ 117 ∷ 115 ∷ 101 ∷ 100 ∷ []) (decimal n ∷ decimal k ∷ []), decimal_short n, decimal_short k)

-- ---- the whole
module _ (text : List ℕ) (b : Book) (e : read text ≡ accepted b) where
  count : ℕ → ℕ
  count r = get_or b.counts r 0

  -- the nodes of the rules before a rule stand before it
  before : (r : ℕ) → r < length b.labels → sum count r ≤ get_or b.firsts r 0
  unfolding sum count
  before zero h = omega arith
  before (suc r) h = omega (arith, before r (omega arith), book_next text b e r (omega arith), ap (λ (k : ℕ). get_or b.firsts k 0) (add-one r))

  all_nodes : (n : ℕ) → n ≤ length b.labels → sum count n ≤ 1024
  unfolding sum count
  all_nodes zero h = omega arith
  all_nodes (suc r) h = omega (arith, before r (omega arith), book_inside text b e r (omega arith), few_nodes text b e)

  rules_short : (base : ℕ) → length (rules_text base (rule_at b) (length b.labels)) ≤ 211 * length b.labels + 104 * 1024
  unfolding rules_text count
  rules_short base = omega (
    arith,
    upto_short (rule_text base (rule_at b) (length b.labels)) count (length b.labels) one,
    all_nodes (length b.labels) (omega arith),
  )
    where
      one : (r : ℕ) → r < length b.labels → length (rule_text base (rule_at b) (length b.labels) r) ≤ 211 + 104 * count r
      one r h = omega (arith, rule_text_short base (rule_at b) (length b.labels) r (book_label text b e r h), book_size text b e r h)

  accepted_short : length (rules_listing (count_in b.states) b.widths (rule_at b) (length b.labels) b.steps) ≤ 124679
  unfolding rules_listing
  accepted_short =
      let n : ℕ = length b.labels in
      let ps : List Report = book_reports (rule_at b) n b.steps in
      let k : ℕ = end_count (kinds_of (rule_at b)) ps in
      let base : ℕ = monitors_base (count_in b.states) b.widths in
      let p : ConfigEncoding = encoding_for (count_in b.states) b.widths (rule_at b) n in
      omega (
        arith,
        length-append (rules_text base (rule_at b) n) (plan_line p ++ (report_lines ps ++ end_line k)),
        length-append (plan_line p) (report_lines ps ++ end_line k),
        length-append (report_lines ps) (end_line k),
        rules_short base,
        plan_short p,
        reports_short ps,
        end_short k,
        report_once (rule_at b) n (fresh_states (rule_at b)) 0 b.steps,
        few_rules text b e,
      )

outcome_short : (text : List ℕ) (o : Outcome) → read text ≡ o → length (listing_of o) ≤ 124679
outcome_short text (accepted b) e = accepted_short text b e
outcome_short text (refused n k) e = omega (arith, refused_short n k)

pub listing_most : (text : List ℕ) → length (listing text) ≤ 124679
unfolding listing
listing_most text = outcome_short text (read text) refl

pub listing_fits : (text : List ℕ) → length (listing text) ≤ listing_room
listing_fits text = omega (arith, listing_most text)
