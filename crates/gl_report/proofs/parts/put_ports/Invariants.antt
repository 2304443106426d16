use Rattle.std.proofs.Common.{◌≡◌, ◌++◌, map}
use Rattle.gl_base.specs.Reports.{name_at, parts}
use Rattle.gl_report.specs.Pieces.{behind_blanks}
use Rattle.gl_report.proofs.parts.put_ports.Given as goal

abbrev pub invariant-loop-port : goal.invariant-loop-port
invariant-loop-port l = l.out.items ++ behind_blanks (parts l.port-iterator.a.rest.now (map (name_at l.nets) l.port-iterator.b.rest.now)) ≡ l.fn.out.items ++ behind_blanks (parts l.ports (map (name_at l.nets) l.binding))
