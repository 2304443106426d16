-- Flat devices as devices of the top, one by one.
use Rattle.std.proofs.Common.{◌≡◌, List, [], ◌∷◌, map, refl, ap}
use Rattle.gl_text.specs.Flattening.{FlatDevice, Flat, flat_card}
use Rattle.gl_flat.specs.PlainFlats.{plain_device, plain}

-- a flat device as one of the top, each net by its flat name
abbrev pub at_top : FlatDevice → FlatDevice
at_top d = plain_device (flat_card d)

-- a flat deck with all its devices at the top
abbrev pub all_at_top : Flat → Flat
all_at_top f = record f { devices = map at_top f.devices }

devices_are : (ds : List FlatDevice) → map at_top ds ≡ map plain_device (map flat_card ds)
devices_are [] = refl
devices_are (d ∷ ds) = ap (λ (es : List FlatDevice). at_top d ∷ es) (devices_are ds)

pub plain_is : (f : Flat) → all_at_top f ≡ plain f
plain_is f = ap (λ (ds : List FlatDevice). record f { devices = ds }) (devices_are f.devices)
