-- What is answered where a device gives up.
use Rattle.sd_base.specs.declared.fault.DevFault.{DevFault}
use Rattle.sd_base.specs.declared.fault.DevFault.TheVariants as gave
use Rattle.script_text.specs.declared.reply.Reply.{Reply}
use Rattle.script_text.specs.declared.reply.Reply.TheVariants as says

-- the reply to a fault of the disk at a block that is no page
abbrev pub fault_reply : DevFault → Reply
fault_reply (gave.Stopped n) = says.Stopped n
fault_reply (gave.Failed n) = says.Fault n
fault_reply (gave.Lost at) = says.DamagedDisk at
fault_reply (gave.Damaged at) = says.DamagedDisk at
