-- Flat decks whose devices and nets stand at the top: the definitions' own.
pub use Rattle.gl_text.specs.PlainFlats.{plain_device, plain_by, plain}
