use Rattle.gl_lifting.specs.Runs.{run_of}
use Rattle.gl_lengths.proofs.Limits.{limit_told}
use Rattle.gl_lengths.proofs.laws.limits_are_counted.Goals as goal

pub returns : goal.returns
returns c = record {
  limit = λ deck_bytes library_bytes o flat library h stem is. limit_told flat (run_of flat library o.keep) h stem
      (c.lifted_decks_are_counted.ensures.cards deck_bytes library_bytes o flat library h stem is)
      (c.lifted_decks_are_paired.ensures.names deck_bytes library_bytes o flat library h stem is)
      (c.lifted_flats_are_counted.ensures.length deck_bytes library_bytes o flat library h stem is);
}
