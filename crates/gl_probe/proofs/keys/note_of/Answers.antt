use Rattle.std.proofs.lemmas.Result.{IfOk-weaker}
use Rattle.gl_key.specs.Best.{seen}
use Rattle.gl_probe.proofs.KeyLaws.{key_found}
use Rattle.gl_probe.proofs.keys.note_of.Goals as goal

pub key_of-requires : goal.key_of-requires
key_of-requires c = record {
  sieve = record {
    labels = c.requires.labels;
    beside = c.in_ok-own.ensures.own;
    tell = c.in_ok-own.ensures.tell;
    deep = c.requires.deep;
    shallow = c.deepest-labels.ensures.whole.shallow;
  };
}

pub returns : goal.returns
returns c = record { key = IfOk-weaker c.key_of.result _ _ (λ note h. key_found c.args.c.now c.args.p.now (seen note) c.devices-circuit.ensures.built c.devices-pattern.ensures.built h) c.key_of.ensures.key }
