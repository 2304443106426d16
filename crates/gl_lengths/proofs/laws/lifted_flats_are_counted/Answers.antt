use Rattle.gl_lifting.specs.Runs.{run_of}
use Rattle.gl_lengths.proofs.Frames.{length_told}
use Rattle.gl_lengths.proofs.laws.lifted_flats_are_counted.Goals as goal

pub returns : goal.returns
returns c = record {
  length = λ deck_bytes library_bytes o flat library h stem is. length_told flat (run_of flat library o.keep) h stem
      (c.lifted_decks_are_flat.ensures.many deck_bytes library_bytes o flat library h stem is)
      (c.lifted_decks_are_paired.ensures.paired deck_bytes library_bytes o flat library h stem is)
      (c.lifted_devices_stand.ensures.stand deck_bytes library_bytes o flat library h stem is)
      (c.lifted_devices_stand.ensures.differ deck_bytes library_bytes o flat library h stem is)
      (c.maps_have_each_once.ensures.devices stem flat (run_of flat library o.keep).source h);
}
