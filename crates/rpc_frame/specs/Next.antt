-- What a text begins with, as the program has it.
use Rattle.rpc_frame.specs.Frame.{First, whole, without_length, partial, too_long}
use Rattle.rpc_frame.specs.declared.frames.Next.{Next}
use Rattle.rpc_frame.specs.declared.frames.Next.TheVariants.{Body, NoLength, Partial, TooLong}

abbrev pub first_of : Next → First
first_of (Body body rest) = whole body.now rest.now
first_of (NoLength rest) = without_length rest.now
first_of Partial = partial
first_of TooLong = too_long
