use Rattle.std.proofs.Common.{◌≡◌, map, inl, inr, rules}
use Rattle.std.specs.Prelude.{string_bytes}
use Rattle.clap.specs.Words.{app_of, kind_of}
use Rattle.clap.specs.declared.error.kind.ErrorKind.TheVariants.{OutOfMemory}
use Rattle.gl_words.specs.Reading.{rows_in}
use Rattle.gl_words.proofs.Parses.{ok_read, err_read, simple_of}
use Rattle.gl_words.proofs.reading.read_words.Goals as goal

pub returns-in-Ok : goal.returns-in-Ok
returns-in-Ok c =
    let app = app_of c.args.command in
    record { read = ok_read app (map string_bytes c.args.words.now) (rows_in c.in-Ok.matches) (c.in-Ok.ensures.kinds c.requires.simple) (c.in-Ok.ensures.matches (simple_of app c.requires.simple)).0 }

pub returns : goal.returns
returns c =
    let app = app_of c.args.command in
    let other : kind_of c.in-Err.error ≡ OutOfMemory → ⊥ = λ memory. search rules in
    record {
      read = elim (c.in-Err.ensures.kinds c.requires.simple) [
        | inl memory ↦ absurd (other memory)
        | inr among ↦ err_read app (map string_bytes c.args.words.now) (kind_of c.in-Err.error) among
      ];
    }
