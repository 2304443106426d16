-- Lines that are judged one by one, each behind those before it.
use Rattle.std.proofs.Common.{◌≡◌, ◌+◌, ◌<◌, ◌≤◌, ℕ, List, [], ◌∷◌, ◌++◌, Bool, true, false, cond, Option, None, Some, length, take, drop, get_or, sym, ap, ◌∙◌}
use Rattle.std.proofs.lemmas.List.{drop_more, drop_all, take_more}
use Rattle.gl_lifting.specs.Renaming.{first_line}

abbrev pub Line : Type 0
Line = List ℕ × List ℕ

abbrev pub Test : Type 0
Test = List Line → Line → Bool

step : (test : Test) (number : ℕ) (before : List Line) (n : Line) (ns : List Line) (b : Bool) → test before n ≡ b
    → first_line test number before (n ∷ ns) ≡ cond b (Some number) (first_line test (number + 1) (before ++ n ∷ []) ns)
step test number before n ns b e = ap (λ c. cond c (Some number) (first_line test (number + 1) (before ++ n ∷ []) ns)) e

split : (lines : List Line) (i : ℕ) (n : Line) → i < length lines → n ≡ get_or lines i n → drop i lines ≡ n ∷ drop (i + 1) lines
split lines i n lt is = drop_more lines i n lt ∙ ap (λ c. c ∷ drop (i + 1) lines) (sym is)

-- a line that is not bad stands among those before
pub line_more : (test : Test) (lines : List Line) (i : ℕ) (n : Line) (number : ℕ) (whole : Option ℕ) → i < length lines → n ≡ get_or lines i n → test (take i lines) n ≡ false
    → first_line test number (take i lines) (drop i lines) ≡ whole → first_line test (number + 1) (take (i + 1) lines) (drop (i + 1) lines) ≡ whole
line_more test lines i n number whole lt is off h =
    ap (λ before. first_line test (number + 1) before (drop (i + 1) lines)) (take_more lines i n lt ∙ ap (λ m. take i lines ++ m ∷ []) (sym is))
    ∙ sym (step test number (take i lines) n (drop (i + 1) lines) false off)
    ∙ sym (ap (first_line test number (take i lines)) (split lines i n lt is)) ∙ h

-- a bad line is the first
pub line_bad : (test : Test) (lines : List Line) (i : ℕ) (n : Line) (number : ℕ) (whole : Option ℕ) → i < length lines → n ≡ get_or lines i n → test (take i lines) n ≡ true
    → first_line test number (take i lines) (drop i lines) ≡ whole → whole ≡ Some number
line_bad test lines i n number whole lt is on h =
    sym h ∙ ap (first_line test number (take i lines)) (split lines i n lt is) ∙ step test number (take i lines) n (drop (i + 1) lines) true on

-- no line is left
pub line_none : (test : Test) (lines : List Line) (i : ℕ) (number : ℕ) (whole : Option ℕ) → length lines ≤ i
    → first_line test number (take i lines) (drop i lines) ≡ whole → whole ≡ None
line_none test lines i number whole past h = sym h ∙ ap (first_line test number (take i lines)) (drop_all i lines past)
