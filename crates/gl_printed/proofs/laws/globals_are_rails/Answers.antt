use Rattle.gl_printed.proofs.laws.globals_are_rails.Goals as goal

pub returns : goal.returns
returns c = record { are_rails = λ deck h. record { fine = h.globals; differ = h.globals_differ; no_zero = h.no_zero } }
