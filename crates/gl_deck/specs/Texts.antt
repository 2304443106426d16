-- The texts of refusals of reading and of flattening: number, name, and each field with its value, with one blank between each two.
use Rattle.std.specs.Prelude.{ℕ, List, [], codes}
use Rattle.gl_text.specs.LogicalLines.{Fault, loose_plus, long_line, long_name, unknown_card, short_card, control_block, nested_subckt, loose_ends, wrong_ends, open_subckt, local_card, parameters, duplicate_name, duplicate_port, zero_port, long_tail, unknown_subckt, wrong_node_count, recursive, name_clash, long_flat_name, too_many_cards, too_many_devices, too_deep, no_top, top_devices, long_text}
use Rattle.gl_said.specs.Texts.{numbered, named}

-- a refusal of reading or of flattening
abbrev pub fault_text : Fault → List ℕ
fault_text (loose_plus line) = numbered (codes "1 LoosePlus line=") line []
fault_text (long_line line len) = numbered (codes "2 LongLine line=") line (numbered (codes " len=") len [])
fault_text (long_name line len) = numbered (codes "3 LongName line=") line (numbered (codes " len=") len [])
fault_text (unknown_card line byte) = numbered (codes "4 UnknownCard line=") line (numbered (codes " byte=") byte [])
fault_text (short_card line has needs) =
    numbered (codes "5 ShortCard line=") line (numbered (codes " has=") has (numbered (codes " needs=") needs []))
fault_text (control_block line) = numbered (codes "6 ControlBlock line=") line []
fault_text (nested_subckt line) = numbered (codes "7 NestedSubckt line=") line []
fault_text (loose_ends line) = numbered (codes "8 LooseEnds line=") line []
fault_text (wrong_ends line) = numbered (codes "9 WrongEnds line=") line []
fault_text (open_subckt line) = numbered (codes "10 OpenSubckt line=") line []
fault_text (local_card line) = numbered (codes "11 LocalCard line=") line []
fault_text (parameters line) = numbered (codes "12 Parameters line=") line []
fault_text (duplicate_name line first) = numbered (codes "13 DuplicateName line=") line (numbered (codes " first=") first [])
fault_text (duplicate_port line) = numbered (codes "14 DuplicatePort line=") line []
fault_text (zero_port line) = numbered (codes "15 ZeroPort line=") line []
fault_text (long_tail line len) = numbered (codes "16 LongTail line=") line (numbered (codes " len=") len [])
fault_text (unknown_subckt line) = numbered (codes "17 UnknownSubckt line=") line []
fault_text (wrong_node_count line has needs) =
    numbered (codes "18 WrongNodeCount line=") line (numbered (codes " has=") has (numbered (codes " needs=") needs []))
fault_text (recursive line) = numbered (codes "19 Recursive line=") line []
fault_text (name_clash name) = named (codes "20 NameClash name=") name []
fault_text (long_flat_name len) = numbered (codes "21 LongFlatName len=") len []
fault_text (too_many_cards number) = numbered (codes "22 TooMany what=Cards number=") number []
fault_text (too_many_devices number) = numbered (codes "22 TooMany what=Devices number=") number []
fault_text (too_deep number) = numbered (codes "23 TooDeep number=") number []
fault_text (no_top name) = named (codes "24 NoTop name=") name []
fault_text (top_devices line) = numbered (codes "25 TopDevices line=") line []
fault_text (long_text number) = numbered (codes "26 LongText number=") number []
