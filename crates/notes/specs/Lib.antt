-- The lists that an edit keeps in the work area.
pub mod Views
pub mod Lists
