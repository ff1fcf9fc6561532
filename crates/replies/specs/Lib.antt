-- Meaning: the reply and its bytes.
pub mod Reply
-- Its number.
pub mod ReplyLaws
