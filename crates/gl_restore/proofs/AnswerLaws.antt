-- What refuses in two halves is what refuses, and where nothing does the flat deck under its old names is given.
use Rattle.std.proofs.Common.{◌≡◌, ℕ, List, [], ◌∷◌, Option, None, Some, Ok, refl, sym, ap, ◌∙◌, map, subst}
use Rattle.std.specs.Prelude.{option_map}
use Rattle.gl_text.specs.Cards.{Device as Card}
use Rattle.gl_text.specs.Flattening.{Flat}
use Rattle.gl_base.specs.BaseCircuit.{nets_of}
use Rattle.gl_base.specs.Rounds.{cards_of}
use Rattle.gl_fault.specs.Refusals.{IsFound, IsRefusal}
use Rattle.gl_flat.specs.Kept.{KeptDevice, kept_device, kept_of}
use Rattle.gl_lifting.specs.NameMaps.{NameMap}
use Rattle.gl_lifting.specs.Renaming.{RestoreFault, missing, first_fault, first_missing, names_of_devices, old_name, restore_fault, unless_fault, renamed, restore}
use Rattle.gl_restore.specs.Backs.{kept_name, name_fault, line_fault, backs_of, flat_with}
use Rattle.gl_restore.proofs.BackLaws.{renamed_is}

-- ---- two halves

alone : (o : Option RestoreFault) → o ≡ first_fault (o ∷ [])
alone None = refl
alone (Some f) = refl

halves : (a b : Option RestoreFault) (rest : List (Option RestoreFault)) → first_fault (a ∷ b ∷ rest) ≡ first_fault (first_fault (a ∷ b ∷ []) ∷ first_fault rest ∷ [])
halves (Some f) b rest = refl
halves None (Some f) rest = refl
halves None None rest = alone (first_fault rest)

-- the first refusal, in two halves
abbrev both : Flat → NameMap → Option RestoreFault
both f m = first_fault (name_fault (names_of_devices f) (nets_of (cards_of f)) m ∷ line_fault (names_of_devices f) (nets_of (cards_of f)) m ∷ [])

whole : (f : Flat) (m : NameMap) → restore_fault f m ≡ both f m
whole f m = halves (option_map missing (first_missing m.devices (names_of_devices f))) (option_map missing (first_missing m.nets (nets_of (cards_of f)))) _

-- what is said of lists that are the names of devices and nets is said of these
name_same : (f : Flat) (m : NameMap) (devices nets : List (List ℕ)) → devices ≡ names_of_devices f → nets ≡ nets_of (cards_of f)
    → name_fault devices nets m ≡ name_fault (names_of_devices f) (nets_of (cards_of f)) m
name_same f m devices nets d n = ap (λ (ds : List (List ℕ)). name_fault ds nets m) d ∙ ap (λ (ns : List (List ℕ)). name_fault (names_of_devices f) ns m) n

line_same : (f : Flat) (m : NameMap) (devices nets : List (List ℕ)) → devices ≡ names_of_devices f → nets ≡ nets_of (cards_of f)
    → line_fault devices nets m ≡ line_fault (names_of_devices f) (nets_of (cards_of f)) m
line_same f m devices nets d n = ap (λ (ds : List (List ℕ)). line_fault ds nets m) d ∙ ap (λ (ns : List (List ℕ)). line_fault (names_of_devices f) ns m) n

-- every device and every net has a line
abbrev pub AreNamed : Flat → NameMap → Type 0
AreNamed f m = name_fault (names_of_devices f) (nets_of (cards_of f)) m ≡ None

pub are_named : (f : Flat) (m : NameMap) (devices nets : List (List ℕ)) → devices ≡ names_of_devices f → nets ≡ nets_of (cards_of f) → name_fault devices nets m ≡ None → AreNamed f m
are_named f m devices nets d n e = sym (name_same f m devices nets d n) ∙ e

-- ---- a refusal

refused_at : {A : Type 0} (o w : Option RestoreFault) (value : A) → IsFound o w → IsRefusal o (unless_fault w value)
refused_at None w value h = tt
refused_at (Some g) w value h = ap (λ v. unless_fault v value) h

first_found : (o a b : Option RestoreFault) → IsFound o a → IsFound o (first_fault (a ∷ b ∷ []))
first_found None a b h = tt
first_found (Some g) a b h = ap (λ v. first_fault (v ∷ b ∷ [])) h

second_found : (o a b : Option RestoreFault) → a ≡ None → IsFound o b → IsFound o (first_fault (a ∷ b ∷ []))
second_found None a b e h = tt
second_found (Some g) a b e h = ap (λ v. first_fault (v ∷ b ∷ [])) e ∙ sym (alone b) ∙ h

-- a device or a net without a line refuses
pub name_refuses : (o : Option RestoreFault) (f : Flat) (m : NameMap) (devices nets : List (List ℕ)) → devices ≡ names_of_devices f → nets ≡ nets_of (cards_of f)
    → IsFound o (name_fault devices nets m) → IsRefusal o (restore f m)
name_refuses o f m devices nets d n h =
    let here = subst (λ (w : Option RestoreFault). IsFound o w) (name_same f m devices nets d n) h in
    let first = first_found o _ (line_fault (names_of_devices f) (nets_of (cards_of f)) m) here in
    refused_at o (restore_fault f m) (renamed f m) (subst (λ (w : Option RestoreFault). IsFound o w) (sym (whole f m)) first)

-- and so does a line, where each has one
pub line_refuses : (o : Option RestoreFault) (f : Flat) (m : NameMap) (devices nets : List (List ℕ)) → devices ≡ names_of_devices f → nets ≡ nets_of (cards_of f)
    → AreNamed f m → IsFound o (line_fault devices nets m) → IsRefusal o (restore f m)
line_refuses o f m devices nets d n e h =
    let here = subst (λ (w : Option RestoreFault). IsFound o w) (line_same f m devices nets d n) h in
    let second = second_found o _ (line_fault (names_of_devices f) (nets_of (cards_of f)) m) e here in
    refused_at o (restore_fault f m) (renamed f m) (subst (λ (w : Option RestoreFault). IsFound o w) (sym (whole f m)) second)

-- ---- the flat deck

names_kept : (nets : List (List ℕ)) (cards : List Card) → map kept_name (map (kept_device nets) cards) ≡ map (λ (c : Card). c.name) cards
names_kept nets [] = refl
names_kept nets (c ∷ cs) = ap (λ (ns : List (List ℕ)). c.name ∷ ns) (names_kept nets cs)

-- the names of kept devices are those of the flat deck's
pub names_of_kept : (f : Flat) (kept : List KeptDevice) → kept ≡ kept_of (cards_of f) → map kept_name kept ≡ names_of_devices f
names_of_kept f kept e = ap (map kept_name) e ∙ names_kept (nets_of (cards_of f)) (cards_of f)

-- where nothing refuses, devices and nets stand under their old names
pub given_back : (f : Flat) (m : NameMap) (nets olds : List (List ℕ)) (kept backs : List KeptDevice) → kept ≡ kept_of (cards_of f) → nets ≡ nets_of (cards_of f)
    → AreNamed f m → line_fault (map kept_name kept) nets m ≡ None → olds ≡ map (old_name m.nets) (nets_of (cards_of f)) → backs ≡ backs_of kept m.devices → restore f m ≡ Ok (flat_with f olds backs)
given_back f m nets olds kept backs k n e g olds_are backs_are =
    let none : line_fault (names_of_devices f) (nets_of (cards_of f)) m ≡ None = sym (line_same f m (map kept_name kept) nets (names_of_kept f kept k) n) ∙ g in
    let both_none : both f m ≡ None = ap (λ v. first_fault (v ∷ line_fault (names_of_devices f) (nets_of (cards_of f)) m ∷ [])) e ∙ ap (λ v. first_fault (v ∷ [])) none in
    ap (λ (w : Option RestoreFault). unless_fault w (renamed f m)) (whole f m ∙ both_none)
    ∙ ap (λ (d : Flat). Ok d) (sym (renamed_is f m olds kept backs olds_are k backs_are))
