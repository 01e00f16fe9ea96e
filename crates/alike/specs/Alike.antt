-- Document 01, "The listing": two compiled rules are alike if nodes agree one for one, signal text compared with v, i, o taken as one letter.
--     alike_mon         likeness of two compiled rules
--     likeness_call     the whole call: whether the rules are alike, or the refusal
use Rattle.std.specs.Prelude.{Bool, true, false, ◌&&◌, List, ℕ, eqb, leb, length}
use Rattle.std.proofs.Math.Option.{Option, none, some}
use Rattle.terms.specs.Limits.{node_cells}
use Rattle.result.specs.Result.{Result, given, refused, or_else}
use Rattle.formula.specs.Table.{roomy}
use Rattle.monitor.specs.declared.range.End.{End}
use Rattle.monitor.specs.declared.range.End.TheVariants.{Step, Open}
use Rattle.monitor.specs.declared.range.AnchorRange.{AnchorRange}
use Rattle.monitor.specs.Mon.{Signal, always_true, at, Check, range_check, delayed_check, obligation, Mon, check, And, Or}
use Rattle.monitor.specs.Table.{compiled_of}
use Rattle.alike.specs.Text.{alike_text}
use Rattle.monitor.specs.declared.table.Part.{Part}

-- the constant true with itself; two formulas by their text, wherever they stand
abbrev pub alike_signal : Signal → Signal → Bool
alike_signal always_true always_true = true
alike_signal always_true (at q g) = false
alike_signal (at p f) always_true = false
alike_signal (at p f) (at q g) = alike_text f g

-- the same end
abbrev pub alike_end : End → End → Bool
alike_end (Step t) (Step u) = eqb t u
alike_end (Step t) Open = false
alike_end Open (Step u) = false
alike_end Open Open = true

-- the same start and the same end
abbrev pub alike_range : AnchorRange → AnchorRange → Bool
alike_range r q = eqb r.from q.from && alike_end r.to q.to

-- the same form, bound and range, and signals alike
abbrev pub alike_check : Check → Check → Bool
alike_check (range_check s r) (range_check t q) = alike_range r q && alike_signal s t
alike_check (range_check s r) (delayed_check t t' q) = false
alike_check (range_check s r) (obligation c t t' q) = false
alike_check (delayed_check s s' r) (range_check t q) = false
alike_check (delayed_check s s' r) (delayed_check t t' q) =
    alike_range r q && (alike_signal s t && alike_signal s' t')
alike_check (delayed_check s s' r) (obligation c t t' q) = false
alike_check (obligation b s s' r) (range_check t q) = false
alike_check (obligation b s s' r) (delayed_check t t' q) = false
alike_check (obligation b s s' r) (obligation c t t' q) =
    eqb b c && (alike_range r q && (alike_signal s t && alike_signal s' t'))

-- nodes agree one for one
unfoldable pub alike_mon : Mon → Mon → Bool
alike_mon (check c) (check d) = alike_check c d
alike_mon (check c) (And m n) = false
alike_mon (check c) (Or m n) = false
alike_mon (And l r) (check d) = false
alike_mon (And l r) (And m n) = alike_mon l m && alike_mon r n
alike_mon (And l r) (Or m n) = false
alike_mon (Or l r) (check d) = false
alike_mon (Or l r) (And m n) = false
alike_mon (Or l r) (Or m n) = alike_mon l m && alike_mon r n

-- ---- the whole call
-- the compiled rule that a part of the two tables holds
abbrev pub part_of : List ℕ → List ℕ → List ℕ → Part → Option Mon
part_of ops nums nodes a = compiled_of ops nums a.first a.count nodes a.nfirst a.ncount

-- refusal 2: one of the two is no compiled rule
abbrev pub likened : Option Mon → Option Mon → Result Bool
likened none n = refused 2
likened (some m) none = refused 2
likened (some m) (some n) = given (alike_mon m n)

-- refusal 1: a table is shorter than 1,024 formula nodes or 256 monitor nodes, of seven numbers each
unfoldable pub likeness_call : List ℕ → List ℕ → List ℕ → Part → Part → Result Bool
likeness_call ops nums nodes a b =
    or_else (roomy ops nums && leb node_cells (length nodes)) 1
    (likened (part_of ops nums nodes a) (part_of ops nums nodes b))

-- the likeness of two parts that hold compiled rules
abbrev pub alike_some : Option Mon → Option Mon → Bool
alike_some none n = false
alike_some (some m) none = false
alike_some (some m) (some n) = alike_mon m n
