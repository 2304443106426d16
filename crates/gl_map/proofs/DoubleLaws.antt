-- A new name is double where the table of earlier ones has it.
use Rattle.std.proofs.Common.{◌≡◌, List, ℕ, [], ◌∷◌, ◌++◌, cond, true, false, Bool, Option, Some, None, Result, Ok, Err, refl, sym, ap, ◌∙◌, subst}
use Rattle.std.specs.Prelude.{◌||◌, filter_map, is_some, IfErr}
use Rattle.std.specs.Result.{IsErrAnd}
use Rattle.std.specs.Map.{keys_of, lookup}
use Rattle.std.proofs.lemmas.Bool.{or_parts}
use Rattle.std.proofs.lemmas.List.{append-nil}
use Rattle.std.proofs.lemmas.Map.Made.{is_some-lookup}
use Rattle.indexmap.specs.IndexMap.{insert_entry}
use Rattle.gl_fault.specs.Refusals.{when, IsFound, IsRefusal}
use Rattle.std.proofs.lemmas.List.Elements.{filter_map-append}
use Rattle.gl_text.specs.LogicalLines.{same_text}
use Rattle.gl_text.specs.Decks.{is_in}
use Rattle.gl_lifting.specs.NameMaps.{NameMap}
use Rattle.gl_lifting.specs.MapReading.{MapFault, double_new, Row, of_device, of_net, ending, other, device_names, net_names, is_double, map_by}
use Rattle.gl_map.specs.Checks.{named}
use Rattle.gl_map.proofs.CheckLaws.{named_stops}

-- the names of devices, and of nets, among rows
abbrev pub devices_in : List Row → List (List ℕ × List ℕ)
devices_in rows = filter_map device_names rows

abbrev pub nets_in : List Row → List (List ℕ × List ℕ)
nets_in rows = filter_map net_names rows

pub double_device : (before : List Row) (new old : List ℕ) → is_double before (of_device new old) ≡ is_in new (keys_of (devices_in before))
double_device [] new old = refl
double_device (of_device n o ∷ rows) new old = ap (λ (b : Bool). same_text new n || b) (double_device rows new old)
double_device (of_net n o ∷ rows) new old = double_device rows new old
double_device (ending ∷ rows) new old = double_device rows new old
double_device (other ∷ rows) new old = double_device rows new old

pub double_net : (before : List Row) (new old : List ℕ) → is_double before (of_net new old) ≡ is_in new (keys_of (nets_in before))
double_net [] new old = refl
double_net (of_net n o ∷ rows) new old = ap (λ (b : Bool). same_text new n || b) (double_net rows new old)
double_net (of_device n o ∷ rows) new old = double_net rows new old
double_net (ending ∷ rows) new old = double_net rows new old
double_net (other ∷ rows) new old = double_net rows new old

pub double_end : (before : List Row) → is_double before ending ≡ false
double_end [] = refl
double_end (row ∷ rows) = double_end rows

-- one more row
abbrev map_with : List (List ℕ × List ℕ) → List (List ℕ × List ℕ) → NameMap
map_with ds ns = record { devices = ds; nets = ns }

pub more : (before : List Row) (row : Row) → map_by (before ++ row ∷ []) ≡ map_with (devices_in before ++ devices_in (row ∷ [])) (nets_in before ++ nets_in (row ∷ []))
more before row = ap (λ ds. map_with ds (nets_in (before ++ row ∷ []))) (filter_map-append device_names before (row ∷ [])) ∙ ap (map_with (devices_in before ++ devices_in (row ∷ []))) (filter_map-append net_names before (row ∷ []))

-- ---- the table of earlier ones

-- a new name goes last
pub new_entry : (es : List (List ℕ × List ℕ)) (k v : List ℕ) → is_in k (keys_of es) ≡ false → insert_entry same_text es k v ≡ es ++ (k, v) ∷ []
new_entry [] k v e = refl
new_entry (x ∷ xs) k v e =
    let p = or_parts (same_text k x.0) (is_in k (keys_of xs)) e in
    ap (λ (b : Bool). cond b ((x.0, v) ∷ xs) (x ∷ insert_entry same_text xs k v)) p.0 ∙ ap (λ ys. x ∷ ys) (new_entry xs k v p.1)

-- what a look-up finds is there
pub looked_up : (es : List (List ℕ × List ℕ)) (k : List ℕ) (b : Bool) (found : Option (List ℕ)) → found ≡ lookup (same_text k) es → is_some found ≡ b → is_in k (keys_of es) ≡ b
looked_up es k b found e f = sym (is_some-lookup (same_text k) es) ∙ ap is_some (sym e) ∙ f

-- a double row is refused
pub found_refused : (o : Option MapFault) (b : Bool) (line : ℕ) (before : List Row) (row : Row) (rows : List Row) → is_double before row ≡ b → IsFound o (when b (double_new line)) → IsRefusal o (named line before (row ∷ rows))
found_refused None b line before row rows e h = tt
found_refused (Some f) true line before row rows e h = named_stops line before row rows e ∙ inner (double_new line) f h where
  no_map : MapFault → Result NameMap MapFault
  no_map g = Err g

  inner : (x y : MapFault) → Some x ≡ Some y → no_map x ≡ no_map y
  inner x y e = cc
found_refused (Some f) false line before row rows e h = absurd cc

-- the table of the devices of rows
pub device_double : (self : NameMap) (ds ns : List (List ℕ × List ℕ)) (before : List Row) (new old : List ℕ) → self ≡ map_with ds ns → self ≡ map_by before → is_double before (of_device new old) ≡ is_in new (keys_of ds)
device_double self ds ns before new old e f = double_device before new old ∙ ap (λ (m : NameMap). is_in new (keys_of m.devices)) (sym f ∙ e)

pub device_put : (self : NameMap) (ds ns es : List (List ℕ × List ℕ)) (before : List Row) (new old : List ℕ) → self ≡ map_with ds ns → es ≡ ds ++ (new, old) ∷ [] → self ≡ map_by before → map_with es ns ≡ map_by (before ++ of_device new old ∷ [])
device_put self ds ns es before new old e put f =
    ap (λ (xs : List (List ℕ × List ℕ)). map_with xs ns) put
    ∙ ap (λ (m : NameMap). map_with (m.devices ++ (new, old) ∷ []) m.nets) (sym e ∙ f)
    ∙ ap (map_with (devices_in before ++ (new, old) ∷ [])) (sym (append-nil (nets_in before)))
    ∙ sym (more before (of_device new old))

-- the table of the nets of rows
pub net_double : (self : NameMap) (ds ns : List (List ℕ × List ℕ)) (before : List Row) (new old : List ℕ) → self ≡ map_with ds ns → self ≡ map_by before → is_double before (of_net new old) ≡ is_in new (keys_of ns)
net_double self ds ns before new old e f = double_net before new old ∙ ap (λ (m : NameMap). is_in new (keys_of m.nets)) (sym f ∙ e)

pub net_put : (self : NameMap) (ds ns es : List (List ℕ × List ℕ)) (before : List Row) (new old : List ℕ) → self ≡ map_with ds ns → es ≡ ns ++ (new, old) ∷ [] → self ≡ map_by before → map_with ds es ≡ map_by (before ++ of_net new old ∷ [])
net_put self ds ns es before new old e put f =
    ap (map_with ds) put
    ∙ ap (λ (m : NameMap). map_with m.devices (m.nets ++ (new, old) ∷ [])) (sym e ∙ f)
    ∙ ap (λ (xs : List (List ℕ × List ℕ)). map_with xs (nets_in before ++ (new, old) ∷ [])) (sym (append-nil (devices_in before)))
    ∙ sym (more before (of_net new old))

-- the end has no names
pub end_put : (self : NameMap) (before : List Row) → self ≡ map_by before → self ≡ map_by (before ++ ending ∷ [])
end_put self before f = f ∙ ap (λ ds. map_with ds (nets_in before)) (sym (append-nil (devices_in before))) ∙ ap (map_with (devices_in before ++ [])) (sym (append-nil (nets_in before))) ∙ sym (more before ending)

-- a refusal of the row of a line that is passed on
abbrev pub RefusesRow : {E : Type 0} → (E → Option MapFault) → ℕ → NameMap → Row → E → Type 0
RefusesRow meaning line self row fault = (before rows : List Row) → self ≡ map_by before → IsRefusal (meaning fault) (named line before (row ∷ rows))

pub refused_on : {E V : Type 0} (meaning : E → Option MapFault) (r : Result V E) (f : E) (line : ℕ) (self : NameMap) (row : Row) → IsErrAnd r (λ e. e ≡ f) → RefusesRow meaning line self row f → IfErr r (RefusesRow meaning line self row)
refused_on meaning (Ok v) f line self row e h = absurd e
refused_on meaning (Err g) f line self row e h = subst (RefusesRow meaning line self row) (sym e) h
