-- Texts of decks and libraries, and of what is written of them, that more than one row has.
use Rattle.std.specs.Prelude.{ℕ, List, ◌++◌, codes}

-- a rail, and the models of both transistors
abbrev pub models : List ℕ
models = codes ".global vdd\n.model nch nmos\n.model pch pmos\n"

-- an inverter
abbrev pub inverter : List ℕ
inverter = codes ".subckt inv a y\nmp y a vdd vdd pch\nmn y a 0 0 nch\n.ends\n"

-- a NAND
abbrev pub nand : List ℕ
nand = codes ".subckt nand2 a b y\nmp1 y a vdd vdd pch\nmp2 y b vdd vdd pch\nmn1 y a x 0 nch\nmn2 x b 0 0 nch\n.ends\n"

-- a pass gate
abbrev pub pass_gate : List ℕ
pass_gate = codes ".subckt tg p q c cb\nmn p c q 0 nch\nmp p cb q vdd pch\n.ends\n"

-- two resistors in parallel
abbrev pub parallel : List ℕ
parallel = codes ".subckt par p q\nra p q\nrb p q\n.ends\n"

-- a rail alone
abbrev pub vdd_rail : List ℕ
vdd_rail = codes ".global vdd\n"

-- a deck of one NAND, whose inner net is `x`
abbrev pub nand_deck : List ℕ
nand_deck = codes "n\n" ++ models ++ codes "m1 y a vdd vdd pch\nm2 y b vdd vdd pch\nm3 y a x 0 nch\nm4 x b 0 0 nch\n"

-- a deck of two resistors, whose global `w` stands on no device
abbrev pub resistor_deck : List ℕ
resistor_deck = codes "t\n.global w\nr1 a b 1\nr2 b 0 1\n"

-- one resistor
abbrev pub one_resistor : List ℕ
one_resistor = codes ".subckt one p q\nr1 p q\n.ends\n"

-- two in a row
abbrev pub two_resistors : List ℕ
two_resistors = codes ".subckt two p q\nr1 p w\nr2 w q\n.ends\n"

-- an inverter with a supply as a port
abbrev pub supplied_inverter : List ℕ
supplied_inverter = codes ".subckt inv a y vdd\nmp y a vdd vdd pch\nmn y a 0 0 nch\n.ends\n"

-- an inverter with both supplies as ports
abbrev pub grounded_inverter : List ℕ
grounded_inverter = codes ".subckt inv a y vdd gnd\nmp y a vdd vdd pch\nmn y a gnd gnd nch\n.ends\n"

-- cells that are skipped
abbrev pub skipped_cells : List ℕ
skipped_cells = codes ".subckt fill v\n.ends\n.subckt odd a b\nr1 a 0 1\n.ends\n"

-- a deck of one inverter
abbrev pub inverter_deck : List ℕ
inverter_deck = codes "one inverter\n" ++ models
    ++ codes "m1 out in vdd vdd pch w=4u l=1u\nm2 out in 0 0 nch w=2u l=1u\n.end\n"

-- the same, with nets whose names hold stems
abbrev pub stem_deck : List ℕ
stem_deck = codes "one inverter\n" ++ models
    ++ codes "m1 xg_ xg1.n vdd vdd pch w=4u l=1u\nm2 xg_ xg1.n 0 0 nch w=2u l=1u\n.end\n"

-- a library of an inverter
abbrev pub gates : List ℕ
gates = codes "* gates\n.global vdd\n" ++ inverter

-- what is lifted of one inverter
abbrev pub inverter_lifted : List ℕ
inverter_lifted = codes "one inverter\n" ++ models
    ++ codes ".subckt inv_v1 a y\nmp y a vdd vdd pch w=4u l=1u\nmn y a 0 0 nch w=2u l=1u\n"
    ++ codes ".ends inv_v1\nxg1 in out inv_v1\n.end\n"

-- its map
abbrev pub inverter_map : List ℕ
inverter_map = codes "gatelift map 1\ndevice m.xg1.mp m1\ndevice m.xg1.mn m2\nnet out out\n"
    ++ codes "net in in\nnet vdd vdd\nnet 0 0\nend\n"

-- its report
abbrev pub inverter_report : List ℕ
inverter_report = codes "round 0\ncell inv ports 2 instances 1 chosen 1\n"
    ++ codes "1 xg1 a=in y=out | mp=m1 mn=m2\nleft 0\nend\n"

-- two inverters in a ring
abbrev pub ring_deck : List ℕ
ring_deck = codes "ring\n" ++ models
    ++ codes "m1 b a vdd vdd pch\nm2 b a 0 0 nch\nm3 a b vdd vdd pch\nm4 a b 0 0 nch\n" ++ codes ".end\n"

-- the report of both
abbrev pub ring_report : List ℕ
ring_report = codes "round 0\ncell inv ports 2 instances 2 chosen 2\n"
    ++ codes "1 xg1 a=a y=b | mp=m1 mn=m2\n2 xg2 a=b y=a | mp=m3 mn=m4\nleft 0\nend\n"

-- two inverters of other sizes
abbrev pub sizes_deck : List ℕ
sizes_deck = codes "two sizes\n" ++ models
    ++ codes "m1 b a vdd vdd pch w=4u\nm2 b a 0 0 nch w=2u\nm3 c b vdd vdd pch w=8u\n"
    ++ codes "m4 c b 0 0 nch w=4u\n.end\n"

-- the report of both
abbrev pub sizes_report : List ℕ
sizes_report = codes "round 0\ncell inv ports 2 instances 2 chosen 2\n"
    ++ codes "1 xg1 a=a y=b | mp=m1 mn=m2\n2 xg2 a=b y=c | mp=m3 mn=m4\nleft 0\nend\n"

-- an inverter with drain and source of one transistor exchanged
abbrev pub exchanged_deck : List ℕ
exchanged_deck = codes "exchanged\n" ++ models
    ++ codes "m1 vdd in out vdd pch ad=1p as=2p\nm2 out in 0 0 nch ad=3p as=4p\n.end\n"

-- what is lifted of it
abbrev pub exchanged_lifted : List ℕ
exchanged_lifted = codes "exchanged\n" ++ models
    ++ codes ".subckt inv_v1 a y\nmp vdd a y vdd pch ad=1p as=2p\n"
    ++ codes "mn y a 0 0 nch ad=3p as=4p\n.ends inv_v1\nxg1 in out inv_v1\n.end\n"

-- its map
abbrev pub exchanged_map : List ℕ
exchanged_map = codes "gatelift map 1\ndevice m.xg1.mp m1\ndevice m.xg1.mn m2\nnet vdd vdd\n"
    ++ codes "net in in\nnet out out\nnet 0 0\nend\n"

-- a deck of one NAND
abbrev pub gate_deck : List ℕ
gate_deck = codes "loaded\n" ++ models
    ++ codes "m1 y a vdd vdd pch\nm2 y b vdd vdd pch\nm3 y a x 0 nch\nm4 x b 0 0 nch\n" ++ codes ".end\n"

-- its report
abbrev pub gate_report : List ℕ
gate_report = codes "round 0\ncell nand2 ports 3 instances 1 chosen 1\n"
    ++ codes "1 xg1 a=a b=b y=y | mp1=m1 mp2=m2 mn1=m3 mn2=m4\nleft 0\nend\n"

-- a NAND with a load on its inner net
abbrev pub loaded_deck : List ℕ
loaded_deck = codes "loaded\n" ++ models
    ++ codes "m1 y a vdd vdd pch\nm2 y b vdd vdd pch\nm3 y a x 0 nch\nm4 x b 0 0 nch\n"
    ++ codes "m5 q x 0 0 nch\n.end\n"

-- a deck of one pass gate
abbrev pub pass_deck : List ℕ
pass_deck = codes "pass\n" ++ models ++ codes "m1 u s v 0 nch\nm2 u sb v vdd pch\n.end\n"

-- the report of both ways
abbrev pub pass_report : List ℕ
pass_report = codes "round 0\ncell tg ports 4 instances 2 chosen 1\n"
    ++ codes "1 xg1 p=u q=v c=s cb=sb | mn=m1 mp=m2\n"
    ++ codes "2 over xg1 p=v q=u c=s cb=sb | mn=m1 mp=m2\nleft 0\nend\n"

-- three resistors between two nets
abbrev pub resistors_deck : List ℕ
resistors_deck = codes "three resistors\nr1 a b 1k\nr2 a b 2k\nr3 a b 3k\n.end\n"

-- the report of all pairs
abbrev pub resistors_report : List ℕ
resistors_report = codes "round 0\ncell par ports 2 instances 6 chosen 1\n"
    ++ codes "1 xg1 p=a q=b | ra=r1 rb=r2\n2 over xg1 p=b q=a | ra=r1 rb=r2\n"
    ++ codes "3 over xg1 p=a q=b | ra=r1 rb=r3\n4 over xg1 p=b q=a | ra=r1 rb=r3\n"
    ++ codes "5 over xg1 p=a q=b | ra=r2 rb=r3\n6 over xg1 p=b q=a | ra=r2 rb=r3\nleft 1\n" ++ codes "end\n"

-- an inverter and a NAND that share a transistor
abbrev pub overlap_deck : List ℕ
overlap_deck = codes "overlap\n" ++ models
    ++ codes "m1 y a vdd vdd pch\nm2 y b vdd vdd pch\nm3 y a x 0 nch\nm4 x b 0 0 nch\n"
    ++ codes "m5 y a 0 0 nch\n.end\n"

-- the report of that deck, the inverter first
abbrev pub inverter_first : List ℕ
inverter_first = codes "round 0\ncell inv ports 2 instances 1 chosen 1\n"
    ++ codes "1 xg1 a=a y=y | mp=m1 mn=m5\ncell nand2 ports 3 instances 1 chosen 0\n"
    ++ codes "1 over xg1 a=a b=b y=y | mp1=m1 mp2=m2 mn1=m3 mn2=m4\nleft 3\nend\n"

-- the NAND first
abbrev pub nand_first : List ℕ
nand_first = codes "round 0\ncell nand2 ports 3 instances 1 chosen 1\n"
    ++ codes "1 xg1 a=a b=b y=y | mp1=m1 mp2=m2 mn1=m3 mn2=m4\n"
    ++ codes "cell inv ports 2 instances 1 chosen 0\n1 over xg1 a=a y=y | mp=m1 mn=m5\n"
    ++ codes "left 1\nend\n"

-- a deck of one latch
abbrev pub latch_deck : List ℕ
latch_deck = codes "latch\n" ++ models ++ codes "m1 q sn vdd vdd pch\nm2 q qn vdd vdd pch\nm3 q sn k1 0 nch\n"
    ++ codes "m4 k1 qn 0 0 nch\nm5 qn rn vdd vdd pch\nm6 qn q vdd vdd pch\n"
    ++ codes "m7 qn rn k2 0 nch\nm8 k2 q 0 0 nch\n.end\n"

-- the cells of a latch
abbrev pub latch_cells : List ℕ
latch_cells = vdd_rail ++ nand ++ codes ".subckt latch s r q qb\nx1 s qb q nand2\nx2 r q qb nand2\n.ends\n"

-- what is lifted of it
abbrev pub latch_lifted : List ℕ
latch_lifted = codes "latch\n" ++ models
    ++ codes ".subckt nand2_v1 a b y\nmp1 y a vdd vdd pch\nmp2 y b vdd vdd pch\n"
    ++ codes "mn1 y a x 0 nch\nmn2 x b 0 0 nch\n.ends nand2_v1\n"
    ++ codes ".subckt latch_v1 s r q qb\nx1 s qb q nand2_v1\nx2 r q qb nand2_v1\n"
    ++ codes ".ends latch_v1\nxg3 sn rn q qn latch_v1\n.end\n"

-- its map
abbrev pub latch_map : List ℕ
latch_map = codes "gatelift map 1\ndevice m.xg3.x1.mp1 m1\ndevice m.xg3.x1.mp2 m2\n"
    ++ codes "device m.xg3.x1.mn1 m3\ndevice m.xg3.x1.mn2 m4\ndevice m.xg3.x2.mp1 m5\n"
    ++ codes "device m.xg3.x2.mp2 m6\ndevice m.xg3.x2.mn1 m7\ndevice m.xg3.x2.mn2 m8\n"
    ++ codes "net q q\nnet sn sn\nnet vdd vdd\nnet qn qn\nnet xg3.x1.x k1\nnet 0 0\n"
    ++ codes "net rn rn\nnet xg3.x2.x k2\nend\n"

-- an extracted deck, whose subcircuit is to be the top
abbrev pub extracted_deck : List ℕ
extracted_deck = codes "* extracted\n.subckt top in out vdd gnd\n"
    ++ codes "M1000 mid in vdd vdd pch w=4u l=1u\n+ ad=8p as=8p pd=10u ps=10u\n"
    ++ codes "M1001 mid in gnd gnd nch w=2u l=1u\n+ ad=4p as=4p pd=6u ps=6u\n"
    ++ codes "M1002 out mid vdd vdd pch w=4u l=1u\n+ ad=8p as=8p pd=10u ps=10u\n"
    ++ codes "M1003 out mid gnd gnd nch w=2u l=1u\n+ ad=4p as=4p pd=6u ps=6u\n"
    ++ codes "C1 mid gnd 2.1fF\n.ends\n.end\n"

-- what is lifted of it
abbrev pub extracted_lifted : List ℕ
extracted_lifted = codes "* extracted\n.subckt inv_v1 a y vdd gnd\n"
    ++ codes "mp y a vdd vdd pch w=4u l=1u ad=8p as=8p pd=10u ps=10u\n"
    ++ codes "mn y a gnd gnd nch w=2u l=1u ad=4p as=4p pd=6u ps=6u\n.ends inv_v1\n"
    ++ codes ".subckt top in out vdd gnd\nxg1 in mid vdd gnd inv_v1\n"
    ++ codes "xg2 mid out vdd gnd inv_v1\nc1 mid gnd 2.1fF\n.ends top\n.end\n"

-- its map
abbrev pub extracted_map : List ℕ
extracted_map = codes "gatelift map 1\ndevice m.xg1.mp m1000\ndevice m.xg1.mn m1001\n"
    ++ codes "device m.xg2.mp m1002\ndevice m.xg2.mn m1003\ndevice c1 c1\nnet mid mid\n"
    ++ codes "net in in\nnet vdd vdd\nnet gnd gnd\nnet out out\nend\n"

-- its report
abbrev pub extracted_report : List ℕ
extracted_report = codes "round 0\ncell inv ports 4 instances 2 chosen 2\n"
    ++ codes "1 xg1 a=in y=mid vdd=vdd gnd=gnd | mp=m1000 mn=m1001\n"
    ++ codes "2 xg2 a=mid y=out vdd=vdd gnd=gnd | mp=m1002 mn=m1003\nleft 1\nend\n"

-- the same, where the top has the name of a variant
abbrev pub variant_named_lifted : List ℕ
variant_named_lifted = codes "* extracted\n.subckt inv_v2 a y vdd gnd\n"
    ++ codes "mp y a vdd vdd pch w=4u l=1u ad=8p as=8p pd=10u ps=10u\n"
    ++ codes "mn y a gnd gnd nch w=2u l=1u ad=4p as=4p pd=6u ps=6u\n.ends inv_v2\n"
    ++ codes ".subckt inv_v1 in out vdd gnd\nxg1 in mid vdd gnd inv_v2\n"
    ++ codes "xg2 mid out vdd gnd inv_v2\nc1 mid gnd 2.1fF\n.ends inv_v1\n.end\n"

-- an inverter below the top
abbrev pub below_deck : List ℕ
below_deck = codes "t\n.model nch nmos\n.model pch pmos\n.subckt s i o\nm1 o i vdd vdd pch\n"
    ++ codes "m2 o i 0 0 nch\n.ends\nx1 in out s\n"

-- two resistors in a row, as a subcircuit with a port on no card
abbrev pub open_deck : List ℕ
open_deck = codes "t\n.subckt n i o u\nr1 i m 1\nr2 m o 1\n.ends\n"
