-- What the code reads of a record: its header, D and the fields.
pub mod Headers
pub mod Unpacked
pub mod Tops
pub mod Filled
