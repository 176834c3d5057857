-- A text that goes out in parts: rb_script's laws of it.
pub use Rattle.rb_script.proofs.SentLaws.{Sent, sent_none, sent_piece, sent_along, piece_exit, piece_last, sent_all, and_then, no_more, writes_along}
pub use Rattle.rb_script.proofs.ListLaws.{drop_there as drop-get}
