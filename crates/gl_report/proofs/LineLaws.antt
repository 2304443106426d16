-- The words of a line, printed one after another.
use Rattle.std.proofs.Common.{◌≡◌, ℕ, List, [], ◌∷◌, ◌++◌, map, sym, ap, ◌∙◌, append_assoc}
use Rattle.std.specs.Prelude.{codes}
use Rattle.std.specs.List.{join_with_byte}
use Rattle.std.proofs.lemmas.List.{append-nil}
use Rattle.std.proofs.lemmas.List.Concat.{flat_map-append}
use Rattle.gl_match.specs.declared.spot.Spot.{Spot}
use Rattle.gl_text.specs.Decks.{Body}
use Rattle.gl_base.specs.Reports.{line, parts, name_at}
use Rattle.gl_base.specs.RoundReports.{card_name}
use Rattle.gl_report.specs.Pieces.{behind_blanks}

-- a word, and the others each behind a blank
pub joined : (word : List ℕ) (words : List (List ℕ)) → join_with_byte 32 (word ∷ words) ≡ word ++ behind_blanks words
joined word [] = sym (append-nil word)
joined word (next ∷ words) = ap (λ t. word ++ 32 ∷ t) (joined next words)

-- the text of an instance's line, by its pieces
pub instance_printed : (out first fated second third fourth number : List ℕ) (fate ports images : List (List ℕ)) → first ≡ out ++ number → fated ≡ first ++ behind_blanks fate → second ≡ fated ++ behind_blanks ports → third ≡ second ++ codes " |" → fourth ≡ third ++ behind_blanks images → fourth ++ codes "\n" ≡ out ++ line (number ∷ fate ++ ports ++ codes "|" ∷ images)
instance_printed out first fated second third fourth number fate ports images a e b c d =
    let bar = behind_blanks (codes "|" ∷ images) in
    let pieces : fourth ≡ ((((out ++ number) ++ behind_blanks fate) ++ behind_blanks ports) ++ codes " |") ++ behind_blanks images = d ∙ ap (λ t. t ++ behind_blanks images) (c ∙ ap (λ t. t ++ codes " |") (b ∙ ap (λ t. t ++ behind_blanks ports) (e ∙ ap (λ t. t ++ behind_blanks fate) a))) in
    let words : fourth ≡ out ++ (number ++ ((behind_blanks fate ++ behind_blanks ports) ++ bar)) = pieces ∙ simp append_assoc in
    let split : behind_blanks (fate ++ ports ++ codes "|" ∷ images) ≡ (behind_blanks fate ++ behind_blanks ports) ++ bar = flat_map-append (λ word. 32 ∷ word) (fate ++ ports) (codes "|" ∷ images) ∙ ap (λ t. t ++ bar) (flat_map-append (λ word. 32 ∷ word) fate ports) in
    let whole : fourth ≡ out ++ join_with_byte 32 (number ∷ fate ++ ports ++ codes "|" ∷ images) = words ∙ ap (λ t. out ++ t) (ap (λ t. number ++ t) (sym split) ∙ sym (joined number (fate ++ ports ++ codes "|" ∷ images))) in
    ap (λ t. t ++ codes "\n") whole ∙ append_assoc out (join_with_byte 32 (number ∷ fate ++ ports ++ codes "|" ∷ images)) (codes "\n")

-- the text of a skipped cell's line, by its pieces
pub skipped_printed : (out first second third fourth name : List ℕ) (reason : List (List ℕ)) → first ≡ out ++ codes "cell " → second ≡ first ++ name → third ≡ second ++ codes " skipped" → fourth ≡ third ++ behind_blanks reason → fourth ++ codes "\n" ≡ out ++ line (codes "cell" ∷ name ∷ codes "skipped" ∷ reason)
skipped_printed out first second third fourth name reason a b c d =
    let pieces : fourth ≡ (((out ++ codes "cell ") ++ name) ++ codes " skipped") ++ behind_blanks reason = d ∙ ap (λ t. t ++ behind_blanks reason) (c ∙ ap (λ t. t ++ codes " skipped") (b ∙ ap (λ t. t ++ name) a)) in
    let words : fourth ≡ out ++ (codes "cell " ++ (name ++ (codes " skipped" ++ behind_blanks reason))) = pieces ∙ simp append_assoc in
    let whole : fourth ≡ out ++ join_with_byte 32 (codes "cell" ∷ name ∷ codes "skipped" ∷ reason) = words ∙ ap (λ t. out ++ (codes "cell " ++ (name ++ 32 ∷ t))) (sym (joined (codes "skipped") reason)) in
    ap (λ t. t ++ codes "\n") whole ∙ append_assoc out (join_with_byte 32 (codes "cell" ∷ name ∷ codes "skipped" ∷ reason)) (codes "\n")

-- the start of a searched cell's line
pub counts_printed : (out a b c d e name ports instances : List ℕ) → a ≡ out ++ codes "cell " → b ≡ a ++ name → c ≡ b ++ codes " ports " → d ≡ c ++ ports → e ≡ d ++ codes " instances " → e ++ instances ≡ out ++ join_with_byte 32 (codes "cell" ∷ name ∷ codes "ports" ∷ ports ∷ codes "instances" ∷ instances ∷ [])
counts_printed out a b c d e name ports instances f g h i j =
    let pieces : e ≡ ((((out ++ codes "cell ") ++ name) ++ codes " ports ") ++ ports) ++ codes " instances " = j ∙ ap (λ t. t ++ codes " instances ") (i ∙ ap (λ t. t ++ ports) (h ∙ ap (λ t. t ++ codes " ports ") (g ∙ ap (λ t. t ++ name) f))) in
    ap (λ t. t ++ instances) pieces ∙ simp append_assoc

-- and its end
pub cell_printed : (out a b c name ports instances chosen : List ℕ) → a ≡ out ++ join_with_byte 32 (codes "cell" ∷ name ∷ codes "ports" ∷ ports ∷ codes "instances" ∷ instances ∷ []) → b ≡ a ++ codes " chosen " → c ≡ b ++ chosen → c ++ codes "\n" ≡ out ++ line (codes "cell" ∷ name ∷ codes "ports" ∷ ports ∷ codes "instances" ∷ instances ∷ codes "chosen" ∷ chosen ∷ [])
cell_printed out a b c name ports instances chosen f g h =
    let counts = join_with_byte 32 (codes "cell" ∷ name ∷ codes "ports" ∷ ports ∷ codes "instances" ∷ instances ∷ []) in
    let pieces : c ≡ ((out ++ counts) ++ codes " chosen ") ++ chosen = h ∙ ap (λ t. t ++ chosen) (g ∙ ap (λ t. t ++ codes " chosen ") f) in
    ap (λ t. t ++ codes "\n") pieces ∙ simp append_assoc

-- the cards with their images, by spots of the circuit's devices
abbrev pub images_by : List (List ℕ) → List Body → List Spot → List (List ℕ)
images_by devices cards spots = parts (map card_name cards) (map (λ (s : Spot). name_at devices s.dev) spots)

-- parts of equal names and images
pub same_ports : (ports ports' nets nets' : List (List ℕ)) (binding binding' : List ℕ) → ports ≡ ports' → nets ≡ nets' → binding ≡ binding' → parts ports (map (name_at nets) binding) ≡ parts ports' (map (name_at nets') binding')
same_ports ports ports' nets nets' binding binding' a b c = ap (λ ps. parts ps (map (name_at nets) binding)) a ∙ (ap (λ ns. parts ports' (map (name_at ns) binding)) b ∙ ap (λ bs. parts ports' (map (name_at nets') bs)) c)

pub same_images : (devices : List (List ℕ)) (cards cards' : List Body) (least least' : List Spot) → cards ≡ cards' → least ≡ least' → images_by devices cards least ≡ images_by devices cards' least'
same_images devices cards cards' least least' a b = ap (λ bs. images_by devices bs least) a ∙ ap (λ ss. images_by devices cards' ss) b
