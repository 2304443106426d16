-- What is told of cells and rounds, printed one after another.
use Rattle.std.proofs.Common.{◌≡◌, ℕ, suc, ◌+◌, ◌<◌, List, ◌∷◌, ◌++◌, length, get_or, drop, drop-cons, add-one, append_assoc, sym, ap, ◌∙◌}
use Rattle.std.specs.Prelude.{zip, flat_map, Result, Ok, Err, IfErr}
use Rattle.std.specs.Result.{IsErrAnd}
use Rattle.std.proofs.Math.Path.{subst}
use Rattle.std.proofs.lemmas.List.Concat.{flat_map-append}
use Rattle.gl_text.specs.Decks.{Sub}
use Rattle.gl_base.specs.Libraries.{Cell, Library}
use Rattle.gl_base.specs.RoundReports.{CellPart, part_lines}
use Rattle.gl_history.specs.Plain.{RoundCell, Round}
use Rattle.gl_limit.specs.Bounds.{Tells}
use Rattle.gl_limit.specs.declared.fault.WriteFault.{WriteFault}
use Rattle.gl_report.specs.Naming.{RoundNames, names_by}
use Rattle.gl_report.specs.Shown.{told_of}
use Rattle.gl_report.specs.Pieces.{parts_text, round_text, rounds_from}

-- the text of a front, and of what is behind
pub parts_append : (names : RoundNames) (front rest : List CellPart) → parts_text names (front ++ rest) ≡ parts_text names front ++ parts_text names rest
parts_append names front rest = flat_map-append (part_lines names.run names.devices) front rest

-- the text of a round, and of those behind
pub rounds_next : (names : RoundNames) (library : Library) (rounds : List Round) (level : ℕ) (r : Round) → level < length rounds → r ≡ get_or rounds level r → rounds_from names library level (drop level rounds) ≡ round_text names library (level, r) ++ rounds_from names library (level + 1) (drop (level + 1) rounds)
rounds_next names library rounds level r lt is =
    let next : drop level rounds ≡ r ∷ drop (level + 1) rounds = drop-cons rounds level r lt ∙ (ap (λ (x : Round). x ∷ drop (suc level) rounds) (sym is) ∙ ap (λ (n : ℕ). r ∷ drop n rounds) (sym (add-one level))) in
    ap (rounds_from names library level) next

-- a turn of a loop over rounds
pub rounds_turn : (names : RoundNames) (library : Library) (rounds : List Round) (level : ℕ) (r : Round) (before whole : List ℕ) → level < length rounds → r ≡ get_or rounds level r → before ++ rounds_from names library level (drop level rounds) ≡ whole → (before ++ round_text names library (level, r)) ++ rounds_from names library (level + 1) (drop (level + 1) rounds) ≡ whole
rounds_turn names library rounds level r before whole lt is was =
    append_assoc before (round_text names library (level, r)) (rounds_from names library (level + 1) (drop (level + 1) rounds))
    ∙ (ap (λ (t : List ℕ). before ++ t) (sym (rounds_next names library rounds level r lt is)) ∙ was)

-- a round's cells by the names of its devices, printed, are those of what is shown of it
pub cells_printed : (names here : RoundNames) (library : Library) (level : ℕ) (round : Round) (subs : List Sub) (cells : List Cell) (told : List RoundCell) → here.run ≡ names.run → here.devices ≡ names_by names round.origins → subs ≡ library.deck.subs → cells ≡ library.cells → told ≡ round.cells → parts_text here (told_of level (zip subs cells) told) ≡ flat_map (part_lines names.run (names_by names round.origins)) (told_of level (zip library.deck.subs library.cells) round.cells)
cells_printed names here library level round subs cells told run devices subs_are cells_are told_are =
    ap (λ ss. parts_text here (told_of level (zip ss cells) told)) subs_are
    ∙ (ap (λ cs. parts_text here (told_of level (zip library.deck.subs cs) told)) cells_are
    ∙ (ap (λ ts. parts_text here (told_of level (zip library.deck.subs library.cells) ts)) told_are
    ∙ (ap (λ r. flat_map (part_lines r here.devices) (told_of level (zip library.deck.subs library.cells) round.cells)) run
    ∙ ap (λ ds. flat_map (part_lines names.run ds) (told_of level (zip library.deck.subs library.cells) round.cells)) devices)))

-- ---- faults

-- a fault that is passed on tells what it told
pub told_on : {V : Type 0} (r : Result V WriteFault) (f : WriteFault) (whole : List ℕ) → IsErrAnd r (λ e. e ≡ f) → Tells f whole → IfErr r (λ e. Tells e whole)
told_on (Ok v) f whole e h = tt
told_on (Err g) f whole e h = subst (λ (x : WriteFault). Tells x whole) (sym e) h
