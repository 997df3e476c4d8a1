use denote.{Param.Send.{IsSend, AllSend, owning_send, struct_send}}
use denote.Struct.{Owning.{shape, fields, to}, Struct.exits_of}
use Rattle.std_alloc.proofs.SendSync.{quiet}
use Rattle.nvmesgl_c.proofs.HeldSends.{held_keyless, pointer_send}
use Rattle.nvmesgl_c.specs.{ControllerOwned.Row, contracts.controller.handle.Kept.{the_row, the_type}}
use Rattle.std_heap.proofs.Global.TheSendSync as heap_send
use Rattle.nvmesgl_c.proofs.controller.any_controller.AnyController.TheSendSync as kept

kept_send : IsSend Row
kept_send = kept.the_send

pub send : IsSend the_row
send =
    let all : AllSend (fields the_type) = (pointer_send, (heap_send.the_field_send, tt)) in
    owning_send the_type all (λ d. held_keyless Row kept_send d.alloc d.at d.controller) (λ k. quiet (to the_type) (exits_of k (fields the_type)) ((struct_send (shape the_type) all).leaving k))
