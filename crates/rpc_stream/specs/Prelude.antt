-- The names of this crate that most files cite, passed on from one place. Declares nothing.
pub use Rattle.rpc_stream.specs.Asked.{Body, Frame, asked_by}
pub use Rattle.rpc_stream.specs.Broken.{IsMemoryOrWrite, broken_text}
pub use Rattle.rpc_stream.specs.BrokenOff.{BrokenOff, SendsFront}
pub use Rattle.rpc_stream.specs.Heard.{Hears, HearsBodies}
pub use Rattle.rpc_stream.specs.Hearing.{HearsAs, kept, unheard}
pub use Rattle.rpc_stream.specs.Sent.{SendsAll}
pub use Rattle.rpc_stream.specs.Serving.{Phase, Steps, Takes, going, over}
pub use Rattle.rpc_stream.specs.Talk.{Talks}
pub use Rattle.rpc_stream.specs.Talked.{TakenAs, TalkedAs, TurnAs}
pub use Rattle.rpc_stream.specs.declared.broken.Broken.{Broken}
pub use Rattle.rpc_stream.specs.declared.serves.Turn.{Turn}
